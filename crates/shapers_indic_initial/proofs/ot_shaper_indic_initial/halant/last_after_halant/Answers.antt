-- One place more, back.
use Rattle.std.proofs.Common.{arith}
use Rattle.shapers_indic.proofs.PlaceSearch.{passes_there}
use Rattle.shapers_indic_initial.proofs.PlaceSearch.{greatest_back, greatest_here}
use Rattle.shapers_indic_initial.proofs.ot_shaper_indic_initial.halant.last_after_halant.Goals as goal

pub returns-then-is_passed_by_halant-clause-place : goal.returns-then-is_passed_by_halant-clause-place
returns-then-is_passed_by_halant-clause-place = search (arith, greatest_here, passes_there)

pub loop-place-preserved : goal.loop-place-preserved
loop-place-preserved = search (arith, greatest_back, passes_there)
