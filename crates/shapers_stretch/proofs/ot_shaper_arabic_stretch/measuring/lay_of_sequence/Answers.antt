use Rattle.std.proofs.Common.{arith}
use Rattle.shapers_stretch.proofs.ot_shaper_arabic_stretch.measuring.lay_of_sequence.Goals as goal

pub returns-in_err-sequence : goal.returns-in_err-sequence
returns-in_err-sequence = search arith

pub returns : goal.returns
returns = search arith
