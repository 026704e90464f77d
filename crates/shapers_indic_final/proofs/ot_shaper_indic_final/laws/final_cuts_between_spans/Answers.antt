use Rattle.shapers_indic_final.proofs.FinalCuts as proofs
use Rattle.shapers_indic_final.proofs.ot_shaper_indic_final.laws.final_cuts_between_spans.Goals as goal

pub returns : goal.returns
returns c = proofs.final_cuts_between_spans
