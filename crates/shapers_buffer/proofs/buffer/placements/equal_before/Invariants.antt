-- From this place on all are of the cluster.
use Rattle.std.proofs.Common.{◌≡◌, ◌+◌, ◌-◌, ◌≤◌, take}
use Rattle.std.specs.List.{suffix_len}
use Rattle.shapers_buffer.specs.Clusters.{has_cluster}
use Rattle.shapers_buffer.proofs.buffer.placements.equal_before.Given as goal

abbrev pub invariant-loop-i : goal.invariant-loop-i
invariant-loop-i l = (l.i ≤ l.end) × (suffix_len (has_cluster l.from) (take l.end l.glyphs)
    ≡ (l.end - l.i) + suffix_len (has_cluster l.from) (take l.i l.glyphs))
