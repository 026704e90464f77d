use Rattle.shapers_indic_final.proofs.FinalNoMask.{at_places}
use Rattle.shapers_indic_final.proofs.ot_shaper_indic_final.reph.at_end.Goals as goal

pub returns-else-is_halant : goal.returns-else-is_halant
returns-else-is_halant c = record {
  within = c.last_but_signs-last.ensures.within;
  place = search at_places;
}

pub returns-then-base-last-clause-place : goal.returns-then-base-last-clause-place
returns-then-base-last-clause-place = search at_places
