-- There is room for the parts that are left.
use Rattle.std.proofs.Common.{drop, map, arith}
use Rattle.std.proofs.lemmas.List.{length-drop, length-map}
use Rattle.std.specs.Prelude.{vec_capacity}
use Rattle.shapers_normal.specs.Decomposition.{as_part}
use Rattle.shapers_normal.proofs.Clusters.{room_for}
use Rattle.shapers_normal.proofs.ot_shape_normalize.decomposing.write_parts.Goals as goal

pub push_within-requires : goal.push_within-requires
push_within-requires g c =
    let part = as_part (g.C.NormalizeContext.context c.args.context.now) c.args.glyph in
    let parts = c.args.parts.now in
    let l = c.loop-c in
    let left = drop l.c-index parts in
    let room = room_for l.to.items (map part left) c.args.to.now.items (map part parts) (vec_capacity c.args.to.now)
    (vec_capacity l.to) l.invariant.text (omega (arith, c.requires.room, length-map parts part))
    l.invariant.capacity in
    omega (arith, room, length-map left part, length-drop l.c-index parts, c.loop-c-test.true)
