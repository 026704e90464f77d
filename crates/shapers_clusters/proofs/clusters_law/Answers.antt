use Rattle.shapers_clusters.proofs.Proved.{clusters_hold}
use Rattle.shapers_clusters.proofs.clusters_law.Goals as goal

pub returns : goal.returns
returns c = clusters_hold
