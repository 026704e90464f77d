use Rattle.std.proofs.Common.{arith}
use Rattle.shapers_buffer.proofs.ClusterLemmas.{flooded_itself}
use Rattle.shapers_buffer.proofs.buffer.merging.flood_after.Goals as goal

pub returns-then-from-to : goal.returns-then-from-to
returns-then-from-to = search (arith, flooded_itself)
