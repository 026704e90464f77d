-- The clusters that are left tell of all.
use Rattle.std.proofs.Common.{◌≡◌, ◌≤◌, ◌-◌, drop, length}
use Rattle.std.specs.List.{list_all}
use Rattle.shapers_normal.specs.Decomposition.{cluster_stays, mark_clusters}
use Rattle.shapers_normal.proofs.ot_shape_normalize.decomposing.each_cluster_stays.Given as goal

abbrev pub invariant-loop-start : goal.invariant-loop-start
invariant-loop-start g l = record {
  left : list_all (cluster_stays (g.C.NormalizeContext.context l.context)) (mark_clusters (drop l.start l.glyphs))
      ≡ list_all (cluster_stays (g.C.NormalizeContext.context l.context)) (mark_clusters l.glyphs);
  within : l.start ≤ length l.glyphs;
}

abbrev pub decreases-loop-start : goal.decreases-loop-start
decreases-loop-start g l = length l.glyphs - l.start
