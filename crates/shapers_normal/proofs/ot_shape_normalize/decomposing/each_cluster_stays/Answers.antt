-- One more cluster.
use Rattle.std.proofs.Common.{◌≡◌, ◌∙◌, ◌+◌, ◌&&◌, ap, drop, length, sym, arith}
use Rattle.std.specs.List.{list_all, prefix_len}
use Rattle.std.proofs.lemmas.List.{length-drop}
use Rattle.shapers_buffer.specs.Glyphs.{Glyphs}
use Rattle.shapers_normal.specs.Decomposition.{cluster_stays, mark_clusters}
use Rattle.shapers_normal.specs.Sorting.{is_mark_glyph}
use Rattle.shapers_normal.proofs.Clusters.{next_groups}
use Rattle.shapers_normal.proofs.ot_shape_normalize.decomposing.each_cluster_stays.Goals as goal

pub returns-then-not-cluster_stays : goal.returns-then-not-cluster_stays
returns-then-not-cluster_stays g c =
    let context = g.C.NormalizeContext.context c.args.context.now in
    let gs = c.args.glyphs.now in
    let l = c.loop-start in
    let n = c.cluster_len.result in
    let is : n ≡ 1 + prefix_len is_mark_glyph (drop 1 (drop l.start gs)) = c.cluster_len.ensures.len
    ∙ ap (λ (xs : Glyphs). 1 + prefix_len is_mark_glyph (drop 1 xs)) c.rest_from.ensures in
    let behind = list_all (cluster_stays context) (mark_clusters (drop (l.start + n) gs)) in
    sym (ap (λ b. b && behind) (sym c.cluster_stays.ensures ∙ c.if-not-cluster_stays.true))
    ∙ sym (ap (list_all (cluster_stays context)) (next_groups is_mark_glyph gs l.start n c.loop-start-test.true is))
    ∙ l.invariant.left

pub loop-start-preserved : goal.loop-start-preserved
loop-start-preserved g c =
    let context = g.C.NormalizeContext.context c.args.context.now in
    let gs = c.args.glyphs.now in
    let l = c.loop-start in
    let n = c.cluster_len.result in
    let is : n ≡ 1 + prefix_len is_mark_glyph (drop 1 (drop l.start gs)) = c.cluster_len.ensures.len
    ∙ ap (λ (xs : Glyphs). 1 + prefix_len is_mark_glyph (drop 1 xs)) c.rest_from.ensures in
    let behind = list_all (cluster_stays context) (mark_clusters (drop (l.start + n) gs)) in
    record {
      left =
          sym (ap (λ b. b && behind) (sym c.cluster_stays.ensures ∙ c.if-not-cluster_stays.false))
          ∙ sym (ap (list_all (cluster_stays context))
          (next_groups is_mark_glyph gs l.start n c.loop-start-test.true is))
          ∙ l.invariant.left;
      within = omega (
        arith,
        c.cluster_len.ensures.within,
        ap length c.rest_from.ensures,
        length-drop l.start gs,
        c.loop-start-test.true,
      );
    }
