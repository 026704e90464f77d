-- The places once both glyphs are found.
use Rattle.std.proofs.Common.{arith}
use Rattle.shapers_indic.proofs.PlaceSearch.{passes_there}
use Rattle.shapers_indic_initial.proofs.ot_shaper_indic_initial.halant.halant_move.Goals as goal

pub returns-then-glyphs-last-eq-OT_H-clause-places : goal.returns-then-glyphs-last-eq-OT_H-clause-places
returns-then-glyphs-last-eq-OT_H-clause-places = search (arith, passes_there)

pub returns-clause-places : goal.returns-clause-places
returns-clause-places = search (arith, passes_there)
