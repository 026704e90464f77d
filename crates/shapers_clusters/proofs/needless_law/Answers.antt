use Rattle.shapers_clusters.proofs.Needless.{needless}
use Rattle.shapers_clusters.proofs.needless_law.Goals as goal

pub returns : goal.returns
returns c = needless
