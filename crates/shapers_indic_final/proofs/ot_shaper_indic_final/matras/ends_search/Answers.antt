use Rattle.shapers_indic_final.proofs.FinalNoMask.{at_places}
use Rattle.shapers_indic_final.proofs.ot_shaper_indic_final.matras.ends_search.Goals as goal

pub returns-else-is_matra_or_halant : goal.returns-else-is_matra_or_halant
returns-else-is_matra_or_halant = search at_places

pub returns-after-is_free_halant : goal.returns-after-is_free_halant
returns-after-is_free_halant = search at_places
