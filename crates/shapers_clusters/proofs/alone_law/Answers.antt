use Rattle.shapers_clusters.proofs.Proved.{alone_holds}
use Rattle.shapers_clusters.proofs.alone_law.Goals as goal

pub returns : goal.returns
returns c = alone_holds
