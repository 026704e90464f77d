use Rattle.shapers_indic_initial.proofs.TextClusters as proofs
use Rattle.shapers_indic_initial.proofs.ot_shaper_indic_initial.laws.initial_clusters.Goals as goal

pub returns : goal.returns
returns c = proofs.initial_clusters
