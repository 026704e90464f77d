use Rattle.std.proofs.Common.{arith}
use Rattle.std.proofs.lemmas.Int.{to_z-of_z}
use Rattle.shapers_stretch.proofs.ot_shaper_arabic_stretch.measuring.centred_start.Goals as goal

pub returns-then-not-fits_i32-2 : goal.returns-then-not-fits_i32-2
returns-then-not-fits_i32-2 = search (arith, to_z-of_z)

pub returns : goal.returns
returns = search (arith, to_z-of_z)
