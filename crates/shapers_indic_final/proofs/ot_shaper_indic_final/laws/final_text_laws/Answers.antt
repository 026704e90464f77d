use Rattle.shapers_indic_final.proofs.FinalKept as proofs
use Rattle.shapers_indic_final.proofs.ot_shaper_indic_final.laws.final_text_laws.Goals as goal

pub returns : goal.returns
returns c = proofs.finally_kept
