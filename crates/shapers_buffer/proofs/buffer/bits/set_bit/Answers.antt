use Rattle.std.proofs.Common.{arith}
use Rattle.shapers_buffer.proofs.BitLemmas.{cleared}
use Rattle.shapers_buffer.proofs.buffer.bits.set_bit.Goals as goal

pub returns-else-on : goal.returns-else-on
returns-else-on = search (arith, cleared)
