use Rattle.std.proofs.Common.{arith}
use Rattle.opentype_gsub.proofs.AsLong.{marked_as_long}
use Rattle.opentype_gsub.proofs.Marking.{marking_end, marking_next, marking_start}
use Rattle.opentype_gsub.proofs.ligating.mark_inside.Goals as goal

pub loop-i-init : goal.loop-i-init
loop-i-init c = rw c.place_behind-first.ensures (marking_start _ _ _ _ _ _)

pub loop-i-preserved : goal.loop-i-preserved
loop-i-preserved c = marking_next _ _ _ _ _ _ _ _ _ _ _ c.loop-i.invariant (omega arith) c.mark_one-counted.ensures
    (marked_as_long _ _ _ _ _ _ _ c.mark_one-counted.ensures)

pub returns : goal.returns
returns c = marking_end _ _ _ _ _ _ _ _ _ c.loop-i.invariant (omega arith)
