use Rattle.shapers_clusters.proofs.Proved.{merge_holds}
use Rattle.shapers_clusters.proofs.merge_law.Goals as goal

pub returns : goal.returns
returns c = merge_holds
