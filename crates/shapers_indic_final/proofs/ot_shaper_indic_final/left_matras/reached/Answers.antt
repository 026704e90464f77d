-- One place back: it is passed, or ends the search.
use Rattle.std.proofs.Common.{arith}
use Rattle.shapers_indic_final.proofs.LeftMatraFloods.{reaches_here, reaches_more}
use Rattle.shapers_indic_final.proofs.ot_shaper_indic_final.left_matras.reached.Goals as goal

pub returns-then-not-is_passed : goal.returns-then-not-is_passed
returns-then-not-is_passed = search (arith, reaches_here)

pub loop-j-preserved : goal.loop-j-preserved
loop-j-preserved = search (arith, reaches_more)

pub returns : goal.returns
returns = search arith
