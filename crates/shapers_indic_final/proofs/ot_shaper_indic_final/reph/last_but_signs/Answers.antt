-- One place more, back.
use Rattle.std.proofs.Common.{◌-◌, not, sym, ap, ◌∙◌, arith}
use Rattle.shapers_buffer.specs.Glyph.{default_glyph}
use Rattle.shapers_indic.specs.Glyphs.{has_position, passes}
use Rattle.shapers_indic_final.specs.Proved.FinalPlaces.{greatest_step, greatest_stop}
use Rattle.shapers_indic_final.proofs.ot_shaper_indic_final.reph.last_but_signs.Goals as goal
use Rattle.shapers_indic.proofs.PlaceSearch.{passes_there}

pub returns-then-not-is_sign-clause-place : goal.returns-then-not-is_sign-clause-place
returns-then-not-is_sign-clause-place c =
    let l = c.loop-i in
    let gs = c.args.glyphs.now in
    let there = passes_there (has_position 13) gs (l.i - 1) default_glyph (omega arith) in
    search (
      arith,
      greatest_stop (λ i. not (passes (has_position 13) gs i)) 0 (l.i - 1) l.i (omega arith)
          (omega arith) (ap not (there ∙ sym c.is_sign.ensures ∙ c.if-not-is_sign.true)),
    )

pub loop-i-preserved : goal.loop-i-preserved
loop-i-preserved = search (arith, greatest_step, passes_there)

pub returns-clause-place : goal.returns-clause-place
returns-clause-place = search arith
