use Rattle.shapers_indic_final.specs.Proved.FinalLaws as proofs
use Rattle.shapers_indic_final.proofs.ot_shaper_indic_final.laws.final_reorder_laws.Goals as goal

pub returns : goal.returns
returns c = proofs.final_laws
