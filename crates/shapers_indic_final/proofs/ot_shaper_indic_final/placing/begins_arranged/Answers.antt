-- The first of two or more decides.
use Rattle.std.proofs.Common.{arith}
use Rattle.shapers_indic_final.proofs.FinalArranged.{opens_by_first, opens_none}
use Rattle.shapers_indic_final.proofs.ot_shaper_indic_final.placing.begins_arranged.Goals as goal

pub returns-then-end-start-ge2 : goal.returns-then-end-start-ge2
returns-then-end-start-ge2 = search (arith, opens_by_first)

pub returns-else-end-start-ge2 : goal.returns-else-end-start-ge2
returns-else-end-start-ge2 = search (arith, opens_none)
