use Rattle.std.proofs.Common.{arith, not}
use Rattle.std.proofs.lemmas.Int.{ints}
use Rattle.shapers_stretch.specs.Cells.{repeats}
use Rattle.shapers_stretch.specs.Stretch.{width_of}
use Rattle.shapers_stretch.proofs.Sums.{sum_next, count_next}
use Rattle.shapers_stretch.proofs.ot_shaper_arabic_stretch.measuring.measure_short.Goals as goal
use Rattle.shapers_stretch.proofs.ot_shaper_arabic_stretch.measuring.measure_short.Goals.{then-repeats, else-repeats}

pub loop-glyph-preserved : goal.loop-glyph-preserved
loop-glyph-preserved g c =
    let font = g.F.hb_font_t.font c.args.font.now in
    let i = c.loop-glyph.glyph-index in
    let ts = c.args.tiles.now in
    elim c.if-repeats.branch [
      | then-repeats w ↦ record {
        fixed_sum = grind (arith, sum_next (width_of font) (λ g. not (repeats g)) ts i);
        repeating_sum = grind (arith, ints, sum_next (width_of font) repeats ts i);
        count = grind (arith, count_next repeats ts i);
        few = omega arith;
        low_fixed = omega (arith, ints);
        high_fixed = omega (arith, ints);
        low_repeating = omega (arith, ints);
        high_repeating = omega (arith, ints);
      }
      | else-repeats w ↦ record {
        fixed_sum = grind (arith, ints, sum_next (width_of font) (λ g. not (repeats g)) ts i);
        repeating_sum = grind (arith, sum_next (width_of font) repeats ts i);
        count = grind (arith, count_next repeats ts i);
        few = omega arith;
        low_fixed = omega (arith, ints);
        high_fixed = omega (arith, ints);
        low_repeating = omega (arith, ints);
        high_repeating = omega (arith, ints);
      }
    ]
