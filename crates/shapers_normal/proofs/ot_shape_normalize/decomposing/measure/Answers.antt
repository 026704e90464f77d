-- Each cluster takes its part of the room.
use Rattle.std.proofs.Common.{◌≡◌, ◌≤◌, ◌∙◌, ◌+◌, ◌-◌, ap, drop, length, refl, take, arith}
use Rattle.std.specs.List.{prefix_len}
use Rattle.shapers_buffer.specs.Glyphs.{Glyphs}
use Rattle.shapers_normal.specs.Sorting.{is_mark_glyph}
use Rattle.std.proofs.lemmas.List.{length-append, length-drop}
use Rattle.shapers_normal.specs.Decomposition.{cluster_becomes, text_decomposed}
use Rattle.shapers_normal.proofs.Clusters.{next_cluster}
use Rattle.shapers_normal.proofs.ot_shape_normalize.decomposing.measure.Goals as goal

pub returns-in-None-clause-length : goal.returns-in-None-clause-length
returns-in-None-clause-length g c =
    let context = g.C.NormalizeContext.context c.args.context.now in
    let gs = c.args.glyphs.now in
    let l = c.loop-start in
    let n = c.cluster_len.result in
    let is : n ≡ 1 + prefix_len is_mark_glyph (drop 1 (drop l.start gs)) = c.cluster_len.ensures.len
    ∙ ap (λ (xs : Glyphs). 1 + prefix_len is_mark_glyph (drop 1 xs)) c.rest_from.ensures in
    let cluster = cluster_becomes context (take (l.start + n - l.start) (drop l.start gs)) in
    let behind = text_decomposed context (drop (l.start + n) gs) in
    let next = ap length (next_cluster context gs l.start n c.loop-start-test.true is) in
    omega (arith, next, length-append cluster behind, l.invariant.room, c.in-None.ensures.none refl)

pub loop-start-preserved : goal.loop-start-preserved
loop-start-preserved g c =
    let context = g.C.NormalizeContext.context c.args.context.now in
    let gs = c.args.glyphs.now in
    let l = c.loop-start in
    let n = c.cluster_len.result in
    let is : n ≡ 1 + prefix_len is_mark_glyph (drop 1 (drop l.start gs)) = c.cluster_len.ensures.len
    ∙ ap (λ (xs : Glyphs). 1 + prefix_len is_mark_glyph (drop 1 xs)) c.rest_from.ensures in
    let inside : l.start + n ≤ length gs =
    omega (
      arith,
      c.cluster_len.ensures.within,
      ap length c.rest_from.ensures,
      length-drop l.start gs,
      c.loop-start-test.true,
    ) in
    let cluster = cluster_becomes context (take (l.start + n - l.start) (drop l.start gs)) in
    let behind = text_decomposed context (drop (l.start + n) gs) in
    let next = ap length (next_cluster context gs l.start n c.loop-start-test.true is) in
    record {
      room = omega (arith, next, length-append cluster behind, l.invariant.room, c.in-Some.ensures.left);
      few = omega (arith, l.invariant.few, c.in-Some.ensures.left);
      within = inside;
    }
