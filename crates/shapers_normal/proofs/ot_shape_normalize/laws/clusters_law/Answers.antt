use Rattle.shapers_normal.proofs.OldClusters.{makes_no_cluster}
use Rattle.shapers_normal.proofs.ot_shape_normalize.laws.clusters_law.Goals as goal

pub returns : goal.returns
returns c = makes_no_cluster
