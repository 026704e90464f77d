use Rattle.shapers_clusters.proofs.Proved.{exact_cuts_hold}
use Rattle.shapers_clusters.proofs.exact_cuts_law.Goals as goal

pub returns : goal.returns
returns c = exact_cuts_hold
