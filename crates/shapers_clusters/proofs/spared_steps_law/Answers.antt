use Rattle.shapers_clusters.proofs.StaysMerged.{merged_stay}
use Rattle.shapers_clusters.proofs.SparedCuts.{exact_spared}
use Rattle.shapers_clusters.proofs.spared_steps_law.Goals as goal

pub returns : goal.returns
returns = search (merged_stay, exact_spared)
