use Rattle.shapers_clusters.proofs.Proved.{clusters_reordered}
use Rattle.shapers_clusters.proofs.clusters_reordered_law.Goals as goal

pub returns : goal.returns
returns c = clusters_reordered
