use Rattle.std.proofs.Common.{arith}
use Rattle.opentype_gsub.proofs.AsLong.{handed_as_long}
use Rattle.opentype_gsub.proofs.edits.delete.Goals as goal

pub remove-requires : goal.remove-requires
remove-requires c = omega (arith, handed_as_long _ _ _ _ c.requires c.hand_on.ensures)
