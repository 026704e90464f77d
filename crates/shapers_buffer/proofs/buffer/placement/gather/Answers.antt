use Rattle.std.proofs.Common.{arith}
use Rattle.shapers_buffer.proofs.PlaceLaws.{gather_more}
use Rattle.shapers_buffer.proofs.buffer.placement.gather.Goals as goal

pub loop-i-preserved : goal.loop-i-preserved
loop-i-preserved = search (arith, gather_more)
