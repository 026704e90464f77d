use Rattle.shapers_clusters.proofs.Permuted.{order_view-permuted}
use Rattle.shapers_clusters.proofs.permuted_law.Goals as goal

pub returns : goal.returns
returns = search order_view-permuted
