-- Where no feature has lookups nothing changes.
use Rattle.std.proofs.Common.{arith}
use Rattle.shapers_indic_initial.proofs.FontPositions.{without_any}
use Rattle.shapers_indic_initial.proofs.ot_shaper_indic_initial.font_positions.update_consonant_positions.Goals as goal

pub returns-then-not-has_forms : goal.returns-then-not-has_forms
returns-then-not-has_forms = search (arith, without_any)
