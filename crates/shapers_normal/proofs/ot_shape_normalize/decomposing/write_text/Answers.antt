-- There is room for what the next cluster becomes; it is written.
use Rattle.std.proofs.Common.{◌≡◌, ◌≤◌, ◌∙◌, ◌++◌, ◌+◌, ◌-◌, ap, drop, length, take, arith}
use Rattle.std.specs.List.{prefix_len}
use Rattle.shapers_buffer.specs.Glyphs.{Glyphs}
use Rattle.shapers_normal.specs.Sorting.{is_mark_glyph}
use Rattle.std.specs.Prelude.{vec_capacity}
use Rattle.std.proofs.lemmas.List.{length-append, length-drop}
use Rattle.shapers_normal.specs.Decomposition.{cluster_becomes, text_decomposed}
use Rattle.shapers_normal.proofs.Clusters.{added_next, next_cluster, room_for}
use Rattle.shapers_normal.proofs.ot_shape_normalize.decomposing.write_text.Goals as goal

pub write_cluster-requires : goal.write_cluster-requires
write_cluster-requires g c =
    let context = g.C.NormalizeContext.context c.args.context.now in
    let gs = c.args.glyphs.now in
    let l = c.loop-start in
    let n = c.cluster_len.result in
    let is : n ≡ 1 + prefix_len is_mark_glyph (drop 1 (drop l.start gs)) = c.cluster_len.ensures.len
    ∙ ap (λ (xs : Glyphs). 1 + prefix_len is_mark_glyph (drop 1 xs)) c.rest_from.ensures in
    let inside : l.start + n ≤ length gs =
    omega (
      arith,
      c.cluster_len.ensures.within,
      ap length c.rest_from.ensures,
      length-drop l.start gs,
      c.loop-start-test.true,
    ) in
    let cluster = cluster_becomes context (take (l.start + n - l.start) (drop l.start gs)) in
    let behind = text_decomposed context (drop (l.start + n) gs) in
    let next = ap length (next_cluster context gs l.start n c.loop-start-test.true is) in
    let room = room_for l.to.items (text_decomposed context (drop l.start gs)) c.args.to.now.items
    (text_decomposed context gs) (vec_capacity c.args.to.now) (vec_capacity l.to) l.invariant.text
    c.requires.room l.invariant.capacity in
    record { room = omega (arith, room, next, length-append cluster behind) }

pub loop-start-preserved : goal.loop-start-preserved
loop-start-preserved g c =
    let context = g.C.NormalizeContext.context c.args.context.now in
    let gs = c.args.glyphs.now in
    let l = c.loop-start in
    let n = c.cluster_len.result in
    let is : n ≡ 1 + prefix_len is_mark_glyph (drop 1 (drop l.start gs)) = c.cluster_len.ensures.len
    ∙ ap (λ (xs : Glyphs). 1 + prefix_len is_mark_glyph (drop 1 xs)) c.rest_from.ensures in
    let inside : l.start + n ≤ length gs =
    omega (
      arith,
      c.cluster_len.ensures.within,
      ap length c.rest_from.ensures,
      length-drop l.start gs,
      c.loop-start-test.true,
    ) in
    let cluster = cluster_becomes context (take (l.start + n - l.start) (drop l.start gs)) in
    let behind = text_decomposed context (drop (l.start + n) gs) in
    record {
      text =
          ap (λ xs. xs ++ behind) c.write_cluster.ensures.added
          ∙ added_next l.to.items cluster behind _ (text_decomposed context (drop l.start gs)) l.invariant.text
          (next_cluster context gs l.start n c.loop-start-test.true is);
      capacity = omega (arith, l.invariant.capacity, c.write_cluster.ensures.capacity);
      within = inside;
    }
