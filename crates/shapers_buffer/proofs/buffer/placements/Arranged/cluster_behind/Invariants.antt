-- Up to this place all are of the cluster.
use Rattle.std.proofs.Common.{◌≡◌, ◌+◌, ◌-◌, ◌≤◌, drop}
use Rattle.std.specs.List.{prefix_len}
use Rattle.shapers_buffer.specs.Clusters.{has_cluster}
use Rattle.shapers_buffer.proofs.buffer.placements.Arranged.cluster_behind.Given as goal

abbrev pub invariant-loop-i : goal.invariant-loop-i
invariant-loop-i l = (l.start ≤ l.i) × (prefix_len (has_cluster l.cluster) (drop l.start l.self)
    ≡ (l.i - l.start) + prefix_len (has_cluster l.cluster) (drop l.i l.self))
