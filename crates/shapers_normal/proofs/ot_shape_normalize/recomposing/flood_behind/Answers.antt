-- The first glyphs of the cluster, counted and put into the other one.
use Rattle.std.proofs.Common.{◌∙◌, ◌++◌, map, take, drop, sym, ap}
use Rattle.shapers_buffer.specs.Clusters.{in_cluster}
use Rattle.shapers_buffer.proofs.ClusterLemmas.{flooded-parts}
use Rattle.shapers_normal.proofs.ot_shape_normalize.recomposing.flood_behind.Goals as goal

pub returns : goal.returns
returns c =
    let gs = c.args.glyphs.now in
    ap (λ xs. xs ++ drop c.count_in-count.result gs) c.change_each_in.ensures
    ∙ ap (λ n. map (in_cluster c.args.to) (take n gs) ++ drop n gs) c.count_in-count.ensures.count
    ∙ sym (flooded-parts c.args.from c.args.to gs)
