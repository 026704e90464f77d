use Rattle.std.proofs.Common.{arith}
use Rattle.std.proofs.lemmas.List.{reverse-reverse}
use Rattle.shapers_buffer.proofs.ClusterLemmas.{flooded_itself}
use Rattle.shapers_buffer.proofs.buffer.merging.flood_before.Goals as goal

pub returns-then-from-to : goal.returns-then-from-to
returns-then-from-to = search (arith, flooded_itself, reverse-reverse)
