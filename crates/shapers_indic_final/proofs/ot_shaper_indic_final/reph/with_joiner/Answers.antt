use Rattle.shapers_indic_final.proofs.FinalNoMask.{at_places}
use Rattle.shapers_indic_final.proofs.ot_shaper_indic_final.reph.with_joiner.Goals as goal

pub returns-else-halant-base-clause-place : goal.returns-else-halant-base-clause-place
returns-else-halant-base-clause-place = search at_places

pub returns-then-is_joiner-clause-place : goal.returns-then-is_joiner-clause-place
returns-then-is_joiner-clause-place = search at_places
