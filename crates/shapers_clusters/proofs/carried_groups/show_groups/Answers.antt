-- One more is shown.
use Rattle.std.proofs.Common.{arith}
use Rattle.shapers_clusters.proofs.GroupWalk.{show_next}
use Rattle.shapers_clusters.proofs.carried_groups.show_groups.Goals as goal

pub loop-i-preserved : goal.loop-i-preserved
loop-i-preserved = search (arith, show_next)
