use Rattle.shapers_clusters.proofs.Proved.{along_holds}
use Rattle.shapers_clusters.proofs.along_law.Goals as goal

pub returns : goal.returns
returns c = along_holds
