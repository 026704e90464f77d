use Rattle.std.proofs.Common.{arith, length-take-le}
use Rattle.shapers_buffer.proofs.PlaceLaws.{set-without_last_zeros}
use Rattle.shapers_buffer.proofs.buffer.hb_buffer_t.set_place.Goals as goal

pub returns : goal.returns
returns = search (arith, set-without_last_zeros, length-take-le)
