-- Merging leaves the lengths of the parts.
use Rattle.std.proofs.Common.{arith}
use Rattle.shapers_arabic.proofs.MarkLaws.{lengths-merged}
use Rattle.shapers_arabic.proofs.ot_shaper_arabic.marks.move_modifiers.Goals as goal

pub bring_forward-requires : goal.bring_forward-requires
bring_forward-requires = search (arith, lengths-merged)
