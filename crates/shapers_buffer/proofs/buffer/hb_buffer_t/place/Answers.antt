use Rattle.std.proofs.Common.{arith}
use Rattle.std.proofs.Common.{rules}
use Rattle.shapers_buffer.proofs.PlaceLaws.{place_at-without_last_zeros}
use Rattle.shapers_buffer.proofs.buffer.hb_buffer_t.place.Goals as goal

pub returns : goal.returns
returns = search (arith, rules, place_at-without_last_zeros)
