use Rattle.shapers_clusters.proofs.Proved.{merged_steps_hold}
use Rattle.shapers_clusters.proofs.merged_steps_law.Goals as goal

pub returns : goal.returns
returns c = merged_steps_hold
