-- There is room for what the next glyph becomes.
use Rattle.std.proofs.Common.{◌+◌, ap, drop, get_or, length, arith}
use Rattle.std.specs.List.{flat_map}
use Rattle.std.specs.Prelude.{vec_capacity}
use Rattle.std.proofs.lemmas.List.{length-append}
use Rattle.shapers_buffer.specs.Glyph.{default_glyph}
use Rattle.shapers_normal.specs.Decomposition.{becomes}
use Rattle.shapers_normal.proofs.Clusters.{next_becomes, room_for}
use Rattle.shapers_normal.proofs.ot_shape_normalize.decomposing.write_each.Goals as goal

pub write-requires : goal.write-requires
write-requires g c =
    let text = becomes (g.C.NormalizeContext.context c.args.context.now) c.args.way in
    let cluster = c.args.glyphs.now in
    let l = c.loop-glyph in
    let all = flat_map text cluster in
    let i = l.glyph-index in
    let next = ap length (next_becomes text cluster i default_glyph c.loop-glyph-test.true) in
    let room = room_for l.to.items (flat_map text (drop i cluster)) c.args.to.now.items all (vec_capacity c.args.to.now)
    (vec_capacity l.to) l.invariant.text c.requires.room l.invariant.capacity in
    record {
      room = omega (
        arith,
        room,
        next,
        length-append (text (get_or cluster i default_glyph))
            (flat_map text (drop (i + 1) cluster)),
      );
    }
