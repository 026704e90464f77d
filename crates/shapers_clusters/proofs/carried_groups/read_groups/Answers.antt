-- One more is read.
use Rattle.std.proofs.Common.{arith}
use Rattle.shapers_clusters.proofs.GroupWalk.{read_next}
use Rattle.shapers_clusters.proofs.carried_groups.read_groups.Goals as goal

pub loop-i-preserved : goal.loop-i-preserved
loop-i-preserved = search (arith, read_next)
