-- Without a ZWNJ nothing changes.
use Rattle.std.proofs.Common.{arith}
use Rattle.shapers_indic_initial.proofs.MaskWalks.{no_half_taken}
use Rattle.shapers_indic_initial.proofs.ot_shaper_indic_initial.masks.clear_half.Goals as goal

pub returns-else-has_non_joiner : goal.returns-else-has_non_joiner
returns-else-has_non_joiner = search (arith, no_half_taken)
