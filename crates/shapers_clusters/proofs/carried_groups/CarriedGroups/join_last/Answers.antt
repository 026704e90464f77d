-- The last two are at the end of the list.
use Rattle.std.proofs.Common.{arith}
use Rattle.shapers_clusters.proofs.GroupWalk.{joined_list, two_lens}
use Rattle.shapers_clusters.proofs.carried_groups.CarriedGroups.join_last.Goals as goal

pub overflow_add-before : goal.overflow_add-before
overflow_add-before = search (arith, two_lens)

pub returns-clause-groups : goal.returns-clause-groups
returns-clause-groups = search (arith, joined_list)
