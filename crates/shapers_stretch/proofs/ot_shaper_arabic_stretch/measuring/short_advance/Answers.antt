use Rattle.std.proofs.Common.{arith}
use Rattle.std.proofs.lemmas.Int.{ints}
use Rattle.shapers_stretch.proofs.Sums.{total_next}
use Rattle.shapers_stretch.proofs.ot_shaper_arabic_stretch.measuring.short_advance.Goals as goal

pub loop-position-preserved : goal.loop-position-preserved
loop-position-preserved c = record {
  sum = grind (arith, total_next (λ p. p.x_advance) c.args.word.now c.loop-position.position-index);
  low = omega (arith, ints);
  high = omega (arith, ints);
}
