use Rattle.shapers_clusters.proofs.Proved.{halves_hold}
use Rattle.shapers_clusters.proofs.halves_law.Goals as goal

pub returns : goal.returns
returns c = halves_hold
