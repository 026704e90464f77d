-- One place more.
use Rattle.std.proofs.Common.{arith}
use Rattle.shapers_indic_final.proofs.FinalArranged.{left_first, left_none}
use Rattle.shapers_indic_final.proofs.ot_shaper_indic_final.left_matras.has_left.Goals as goal

pub returns-then-is_left : goal.returns-then-is_left
returns-then-is_left = search (arith, left_first)

pub loop-i-preserved : goal.loop-i-preserved
loop-i-preserved = search (arith, left_first)

pub returns : goal.returns
returns = search (arith, left_none)
