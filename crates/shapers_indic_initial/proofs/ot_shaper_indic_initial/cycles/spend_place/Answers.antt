-- The list with one place written.
use Rattle.std.proofs.Common.{arith}
use Rattle.shapers_indic_initial.proofs.CycleSteps.{places_from_written}
use Rattle.shapers_indic_initial.proofs.ot_shaper_indic_initial.cycles.spend_place.Goals as goal

pub returns-clause-spent : goal.returns-clause-spent
returns-clause-spent = search (arith, places_from_written)
