use Rattle.std.proofs.lemmas.Grind.{common_steps}
use Rattle.std.proofs.Common.{arith}
use Rattle.shapers_universal.proofs.ot_shaper_use.ordering.piece_len.Goals as goal

pub loop-i-preserved : goal.loop-i-preserved
loop-i-preserved c = grind (arith, common_steps)

pub returns-clause-len : goal.returns-clause-len
returns-clause-len c = grind (arith, common_steps)

pub returns-then-is_halant-clause-len : goal.returns-then-is_halant-clause-len
returns-then-is_halant-clause-len c = grind (arith, common_steps)
