-- One place more, back.
use Rattle.std.proofs.Common.{◌-◌, sym, ◌∙◌, arith}
use Rattle.shapers_buffer.specs.Glyph.{default_glyph}
use Rattle.shapers_indic.specs.Glyphs.{passes}
use Rattle.shapers_indic_final.specs.FinalGlyphs.{is_matra_or_halant}
use Rattle.shapers_indic_final.specs.Proved.FinalPlaces.{greatest_step, greatest_stop}
use Rattle.shapers_indic_final.proofs.ot_shaper_indic_final.pref.behind_sign.Goals as goal
use Rattle.shapers_indic.proofs.PlaceSearch.{passes_there}

pub returns-then-is_matra_or_halant-clause-place : goal.returns-then-is_matra_or_halant-clause-place
returns-then-is_matra_or_halant-clause-place c =
    let l = c.loop-i in
    let gs = c.args.glyphs.now in
    let there = passes_there is_matra_or_halant gs (l.i - 1) default_glyph (omega arith) in
    search (
      arith,
      greatest_stop (passes is_matra_or_halant gs) 0 (l.i - 1) l.i (omega arith) (omega arith)
          (there ∙ sym c.is_matra_or_halant.ensures ∙ c.if-is_matra_or_halant.true),
    )

pub loop-i-preserved : goal.loop-i-preserved
loop-i-preserved = search (arith, greatest_step, passes_there)

pub returns-clause-place : goal.returns-clause-place
returns-clause-place = search arith
