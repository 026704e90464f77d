use Rattle.shapers_indic_final.proofs.FinalClusters as proofs
use Rattle.shapers_indic_final.proofs.ot_shaper_indic_final.laws.final_cuts.Goals as goal

pub returns : goal.returns
returns c = proofs.final_cuts
