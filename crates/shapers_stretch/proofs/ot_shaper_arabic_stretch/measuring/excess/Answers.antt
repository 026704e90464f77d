use Rattle.std.proofs.Common.{arith}
use Rattle.std.proofs.lemmas.Int.{ints}
use Rattle.shapers_stretch.proofs.ot_shaper_arabic_stretch.measuring.excess.Goals as goal

pub returns : goal.returns
returns = omega (arith, ints)
