-- There is room for the glyphs that are left.
use Rattle.std.proofs.Common.{drop, map, arith}
use Rattle.std.proofs.lemmas.List.{length-drop, length-map}
use Rattle.std.specs.Prelude.{vec_capacity}
use Rattle.shapers_normal.specs.Variants.{with_number}
use Rattle.shapers_normal.proofs.Clusters.{room_for}
use Rattle.shapers_normal.proofs.ot_shape_normalize.variants.write_kept.Goals as goal

pub push_within-requires : goal.push_within-requires
push_within-requires g c =
    let kept = with_number (g.C.NormalizeContext.context c.args.context.now) in
    let gs = c.args.glyphs.now in
    let l = c.loop-glyph in
    let left = drop l.glyph-index gs in
    let room = room_for l.to.items (map kept left) c.args.to.now.items (map kept gs) (vec_capacity c.args.to.now)
    (vec_capacity l.to) l.invariant.text (omega (arith, c.requires.room, length-map gs kept))
    l.invariant.capacity in
    omega (arith, room, length-map left kept, length-drop l.glyph-index gs, c.loop-glyph-test.true)
