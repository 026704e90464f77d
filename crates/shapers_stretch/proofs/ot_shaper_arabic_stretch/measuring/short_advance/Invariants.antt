-- The sum so far, and its bounds.
use Rattle.std.proofs.Common.{◌≡◌, ◌*◌, map, take, pos, neg_ℤ, ◌≤ℤ◌}
use Rattle.shapers_stretch.specs.Measure.{total}
use Rattle.shapers_stretch.proofs.ot_shaper_arabic_stretch.measuring.short_advance.Given as goal

abbrev pub invariant-loop-position : goal.invariant-loop-position
invariant-loop-position l = record {
  sum : l.sum ≡ total (map (λ p. p.x_advance) (take l.position-index l.word));
  low : neg_ℤ (pos (0x8000_0000 * l.position-index)) ≤ℤ l.sum;
  high : l.sum ≤ℤ pos (0x8000_0000 * l.position-index);
}
