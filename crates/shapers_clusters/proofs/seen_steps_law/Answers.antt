use Rattle.shapers_clusters.proofs.Proved.{seen_steps_hold}
use Rattle.shapers_clusters.proofs.seen_steps_law.Goals as goal

pub returns : goal.returns
returns c = seen_steps_hold
