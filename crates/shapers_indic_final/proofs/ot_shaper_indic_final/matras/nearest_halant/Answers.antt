use Rattle.shapers_indic_final.proofs.FinalNoMask.{at_places}
use Rattle.shapers_indic_final.proofs.ot_shaper_indic_final.matras.nearest_halant.Goals as goal

pub returns-else-is_free_halant-clause-target : goal.returns-else-is_free_halant-clause-target
returns-else-is_free_halant-clause-target = search at_places

pub returns-then-is_free_halant-clause-target : goal.returns-then-is_free_halant-clause-target
returns-then-is_free_halant-clause-target = search at_places
