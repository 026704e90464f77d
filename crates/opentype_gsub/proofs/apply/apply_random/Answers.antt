use Rattle.std.proofs.Common.{arith}
use Rattle.opentype_gsub.proofs.AsLong.{flagged_as_long}
use Rattle.opentype_gsub.proofs.apply.apply_random.Goals as goal

pub replace-requires : goal.replace-requires
replace-requires c = omega (arith, flagged_as_long _ _ _ c.len-len.ensures c.unsafe_to_break.ensures)
