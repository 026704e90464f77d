use Rattle.shapers_clusters.proofs.Proved.{steps_hold}
use Rattle.shapers_clusters.proofs.steps_law.Goals as goal

pub returns : goal.returns
returns c = steps_hold
