-- One place more, back.
use Rattle.std.proofs.Common.{◌-◌, sym, ◌∙◌, arith}
use Rattle.shapers_indic_final.specs.FinalMatras.{ends_search}
use Rattle.shapers_indic_final.specs.Proved.FinalPlaces.{greatest_step, greatest_stop}
use Rattle.shapers_indic_final.proofs.ot_shaper_indic_final.matras.search_end.Goals as goal

pub returns-then-ends_search-clause-end : goal.returns-then-ends_search-clause-end
returns-then-ends_search-clause-end c =
    let l = c.loop-i in
    search (
      arith,
      greatest_stop (ends_search c.args.glyphs.now) 0 (l.i - 1) l.i (omega arith) (omega arith)
          (sym c.ends_search.ensures ∙ c.if-ends_search.true),
    )

pub loop-i-preserved : goal.loop-i-preserved
loop-i-preserved = search (arith, greatest_step)

pub returns-clause-end : goal.returns-clause-end
returns-clause-end = search arith
