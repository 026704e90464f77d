use Rattle.shapers_indic_final.proofs.FinalNoMask.{at_places}
use Rattle.shapers_indic_final.proofs.ot_shaper_indic_final.base.before_joiner.Goals as goal

pub returns-in_default-3-clause-place : goal.returns-in_default-3-clause-place
returns-in_default-3-clause-place = search at_places

pub returns-in-len1-up-clause-place : goal.returns-in-len1-up-clause-place
returns-in-len1-up-clause-place = search at_places

pub returns-in_default-2-clause-place : goal.returns-in_default-2-clause-place
returns-in_default-2-clause-place = search at_places
