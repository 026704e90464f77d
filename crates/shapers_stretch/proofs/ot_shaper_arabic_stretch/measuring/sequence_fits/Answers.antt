use Rattle.std.proofs.Common.{arith}
use Rattle.std.proofs.Common.{rules}
use Rattle.shapers_stretch.proofs.Numbers.{run_fits_from}
use Rattle.shapers_stretch.proofs.ot_shaper_arabic_stretch.measuring.sequence_fits.Goals as goal

pub returns-then-fits_i32-3-clause-value : goal.returns-then-fits_i32-3-clause-value
returns-then-fits_i32-3-clause-value = search rules

pub returns-then-fits_i32-3-clause-fits : goal.returns-then-fits_i32-3-clause-fits
returns-then-fits_i32-3-clause-fits = search (arith, run_fits_from, returns-then-fits_i32-3-clause-value)
