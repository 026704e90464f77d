use Rattle.shapers_clusters.proofs.Proved.{made_hold}
use Rattle.shapers_clusters.proofs.made_law.Goals as goal

pub returns : goal.returns
returns c = made_hold
