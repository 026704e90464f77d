-- The sums so far, and their bounds.
use Rattle.std.proofs.Common.{◌≡◌, ◌*◌, ◌≤◌, length, map, take, pos, neg_ℤ, ◌≤ℤ◌}
use Rattle.shapers_stretch.specs.Measure.{total}
use Rattle.shapers_stretch.specs.Stretch.{fixed, repeating, width_of}
use Rattle.shapers_stretch.proofs.ot_shaper_arabic_stretch.measuring.measure_short.Given as goal

abbrev pub invariant-loop-glyph : goal.invariant-loop-glyph
invariant-loop-glyph g l = record {
  fixed_sum : l.fixed ≡ total (map (width_of (g.F.hb_font_t.font l.font)) (fixed (take l.glyph-index l.tiles)));
  repeating_sum : l.repeating
      ≡ total (map (width_of (g.F.hb_font_t.font l.font)) (repeating (take l.glyph-index l.tiles)));
  count : l.repeaters ≡ length (repeating (take l.glyph-index l.tiles));
  few : l.repeaters ≤ l.glyph-index;
  low_fixed : neg_ℤ (pos (0x8000_0000 * l.glyph-index)) ≤ℤ l.fixed;
  high_fixed : l.fixed ≤ℤ pos (0x8000_0000 * l.glyph-index);
  low_repeating : neg_ℤ (pos (0x8000_0000 * l.glyph-index)) ≤ℤ l.repeating;
  high_repeating : l.repeating ≤ℤ pos (0x8000_0000 * l.glyph-index);
}
