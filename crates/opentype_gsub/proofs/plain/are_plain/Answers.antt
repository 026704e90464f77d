use Rattle.std.proofs.Common.{arith}
use Rattle.opentype_gsub.proofs.plain.are_plain.Goals as goal

pub loop-i-init : goal.loop-i-init
loop-i-init c = λ j lt. absurd (omega arith)
