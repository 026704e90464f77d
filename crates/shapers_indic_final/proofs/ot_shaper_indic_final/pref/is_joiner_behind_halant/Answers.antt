use Rattle.shapers_indic_final.proofs.FinalNoMask.{at_places}
use Rattle.shapers_indic_final.proofs.ot_shaper_indic_final.pref.is_joiner_behind_halant.Goals as goal

pub returns-then-is_halant : goal.returns-then-is_halant
returns-then-is_halant = search at_places

pub returns-else-is_halant : goal.returns-else-is_halant
returns-else-is_halant = search at_places
