-- The two moves, by the parts of the marks.
use Rattle.std.proofs.Common.{arith}
use Rattle.std.proofs.Common.{sym, ap}
use Rattle.shapers_arabic.specs.Marks.{split_marks}
use Rattle.shapers_arabic.proofs.MarkLists.{split-joined, two_moves}
use Rattle.shapers_arabic.proofs.ot_shaper_arabic.marks.bring_forward.Goals as goal

pub returns : goal.returns
returns c =
    let p = c.args.parts in
    let marks = c.args.marks.now in
    two_moves (split_marks marks) marks c.bring_last.new.marks c.bring_last-2.new.marks p.low p.modifiers_below p.middle
    p.modifiers_above (ap (λ q. q.low) c.requires) (search arith)
    (search arith) (search arith) (sym (split-joined marks)) c.bring_last.ensures c.bring_last-2.ensures
