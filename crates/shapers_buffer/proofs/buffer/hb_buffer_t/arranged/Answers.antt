use Rattle.std.proofs.Common.{arith}
use Rattle.shapers_buffer.proofs.Arranging.{all_long}
use Rattle.shapers_buffer.proofs.buffer.hb_buffer_t.arranged.Goals as goal

pub returns-clause-same_length : goal.returns-clause-same_length
returns-clause-same_length = search (arith, all_long)
