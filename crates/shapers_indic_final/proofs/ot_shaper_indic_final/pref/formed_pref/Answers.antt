use Rattle.shapers_indic_final.proofs.FinalNoMask.{at_places}
use Rattle.shapers_indic_final.proofs.ot_shaper_indic_final.pref.formed_pref.Goals as goal

pub returns-else-is_formed-clause-place : goal.returns-else-is_formed-clause-place
returns-else-is_formed-clause-place = search at_places

pub returns-then-is_formed-clause-place : goal.returns-then-is_formed-clause-place
returns-then-is_formed-clause-place = search at_places
