-- One more cluster.
use Rattle.std.proofs.Common.{◌≡◌, ◌≤◌, ◌∙◌, ◌+◌, ◌++◌, ap, drop, length, take, arith}
use Rattle.std.specs.List.{prefix_len}
use Rattle.std.proofs.lemmas.List.{length-drop}
use Rattle.shapers_buffer.specs.Glyphs.{Glyphs}
use Rattle.shapers_buffer.specs.Clusters.{first_cluster, has_cluster}
use Rattle.shapers_position.specs.ClusterFlags.{flags_propagated}
use Rattle.shapers_position.proofs.ClusterGroups.{cluster_next}
use Rattle.shapers_position.proofs.ot_shape_position.flags.propagate_in.Goals as goal

pub loop-start-preserved : goal.loop-start-preserved
loop-start-preserved c =
    let l = c.loop-start in
    let n = c.first_cluster_len.result in
    let rest = ap length c.rest_from.ensures in
    let inside : l.start + n ≤ length l.glyphs = omega
    (arith, c.first_cluster_len.ensures.within, rest, length-drop l.start l.glyphs, c.loop-start-test.true) in
    let is : n ≡ 1 + prefix_len (has_cluster (first_cluster (drop l.start l.glyphs))) (drop 1 (drop l.start l.glyphs)) =
    c.first_cluster_len.ensures.len ∙ ap (λ (xs : Glyphs). 1 + prefix_len
    (has_cluster (first_cluster xs)) (drop 1 xs)) c.rest_from.ensures in
    record {
      done =
          ap (λ gs. take (l.start + n) gs ++ flags_propagated c.args.wanted
          (drop (l.start + n) gs)) c.share_flags_from.ensures
          ∙ cluster_next c.args.wanted l.glyphs l.start n c.loop-start-test.true inside is
          ∙ l.invariant.done;
      within = omega (arith, inside, l.auto.glyphs);
    }
