use Rattle.shapers_indic_final.proofs.FinalSerials as proofs
use Rattle.shapers_indic_final.proofs.ot_shaper_indic_final.laws.final_reads_no_serials.Goals as goal

pub returns-clause-syllable : goal.returns-clause-syllable
returns-clause-syllable c = proofs.final_reads_no_serials

pub returns-clause-text : goal.returns-clause-text
returns-clause-text c = proofs.final_text_reads_no_serials
