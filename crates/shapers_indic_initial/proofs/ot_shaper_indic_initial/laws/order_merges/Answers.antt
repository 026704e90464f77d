use Rattle.shapers_indic_initial.proofs.OrderClusters as proofs
use Rattle.shapers_indic_initial.proofs.ot_shaper_indic_initial.laws.order_merges.Goals as goal

pub returns : goal.returns
returns c = proofs.order_merges
