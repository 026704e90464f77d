-- One place more, back.
use Rattle.std.proofs.Common.{◌-◌, sym, ◌∙◌, arith}
use Rattle.shapers_buffer.specs.Glyph.{default_glyph}
use Rattle.shapers_indic.specs.Glyphs.{passes}
use Rattle.shapers_indic_final.specs.FinalBase.{is_base_like}
use Rattle.shapers_indic_final.specs.Proved.FinalPlaces.{greatest_step, greatest_stop}
use Rattle.shapers_indic_final.proofs.ot_shaper_indic_final.base.nearest_base_like.Goals as goal
use Rattle.shapers_indic.proofs.PlaceSearch.{passes_there}

pub returns-then-is_base_like-clause-place : goal.returns-then-is_base_like-clause-place
returns-then-is_base_like-clause-place c =
    let l = c.loop-i in
    let gs = c.args.glyphs.now in
    let there = passes_there is_base_like gs (l.i - 1) default_glyph (omega arith) in
    search (
      arith,
      greatest_stop (passes is_base_like gs) 1 (l.i - 1) l.i (omega (arith, c.loop-i-test.true))
          (omega (arith, c.loop-i-test.true)) (there ∙ sym c.is_base_like.ensures ∙ c.if-is_base_like.true),
    )

pub loop-i-preserved : goal.loop-i-preserved
loop-i-preserved = search (arith, greatest_step, passes_there)

pub returns-clause-place : goal.returns-clause-place
returns-clause-place = search arith
