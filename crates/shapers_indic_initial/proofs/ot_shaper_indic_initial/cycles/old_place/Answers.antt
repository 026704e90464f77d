-- What the placement list says.
use Rattle.std.proofs.Common.{arith}
use Rattle.shapers_indic_initial.proofs.CycleSteps.{places_from_at}
use Rattle.shapers_indic_initial.proofs.ot_shaper_indic_initial.cycles.old_place.Goals as goal

pub returns : goal.returns
returns = search (arith, places_from_at)
