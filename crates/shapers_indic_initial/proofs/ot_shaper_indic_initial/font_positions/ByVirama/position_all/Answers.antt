-- Where no consonant is of position BASE_C nothing changes.
use Rattle.std.proofs.Common.{arith}
use Rattle.shapers_indic_initial.proofs.FontPositions.{none_at_base}
use Rattle.shapers_indic_initial.proofs.ot_shaper_indic_initial.font_positions.ByVirama.position_all.Goals as goal

pub returns-in_default : goal.returns-in_default
returns-in_default = search (arith, none_at_base)
