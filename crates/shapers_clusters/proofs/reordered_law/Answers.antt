use Rattle.shapers_clusters.proofs.Proved.{reordered_hold}
use Rattle.shapers_clusters.proofs.reordered_law.Goals as goal

pub returns : goal.returns
returns c = reordered_hold
