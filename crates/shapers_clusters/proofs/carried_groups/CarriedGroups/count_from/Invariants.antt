-- One of the groups.
use Rattle.std.proofs.Common.{◌<◌, length}
use Rattle.shapers_clusters.proofs.carried_groups.CarriedGroups.count_from.Given as goal

abbrev pub invariant-loop-index : goal.invariant-loop-index
invariant-loop-index l = l.index < length l.self.groups.items

abbrev pub decreases-loop-index : goal.decreases-loop-index
decreases-loop-index l = l.index
