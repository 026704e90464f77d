-- All that has stayed from this place on is in the cluster.
use Rattle.std.proofs.Common.{◌≡◌, ◌≤◌, true}
use Rattle.std.specs.List.{list_all}
use Rattle.shapers_buffer.specs.Clusters.{has_cluster}
use Rattle.shapers_indic_final.specs.LeftMatraWalk.{staying}
use Rattle.shapers_indic_final.proofs.ot_shaper_indic_final.left_matras.reached.Given as goal

abbrev pub invariant-loop-j : goal.invariant-loop-j
invariant-loop-j l =
    (l.j ≤ l.start) × (list_all (has_cluster l.cluster) (staying l.from l.top l.glyphs l.j l.start) ≡ true)
