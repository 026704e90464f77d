-- One goes to the front, or none.
use Rattle.std.proofs.Common.{arith}
use Rattle.shapers_buffer.specs.Clusters.{stretch_of}
use Rattle.shapers_universal.proofs.OneFront.{none_from, one_reordered}
use Rattle.shapers_universal.specs.Proved.Reordered.{still_reordered}
use Rattle.shapers_universal.specs.Proved.UniversalFronts.{fronts_from-none}
use Rattle.shapers_universal.proofs.ot_shaper_use.ordering.reorder_fronts.Goals as goal

pub returns-else-some_go_front : goal.returns-else-some_go_front
returns-else-some_go_front c =
    let e = c.args.end in
    let a = c.in-Some.front in
    let z = c.in-Some.behind in
    let none = fronts_from-none a z (stretch_of z e c.glyphs.result.now) (search arith) in
    one_reordered c.args.start e a z c.args.buffer.now c.move_to_front.new.buffer c.requires.in_order c.requires.in_range
    c.requires.kind c.requires.no_reph (search arith) c.move_to_front.ensures

pub returns-in_default : goal.returns-in_default
returns-in_default c =
    let s = c.args.start in
    let e = c.args.end in
    let none = none_from s s (stretch_of s e c.args.buffer.now.glyphs) (search arith) in
    still_reordered s e c.args.buffer.now c.requires.in_order c.requires.in_range (search arith)
