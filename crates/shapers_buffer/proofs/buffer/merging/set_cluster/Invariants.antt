use Rattle.std.proofs.Common.{◌≡◌, ◌++◌, map, take, drop}
use Rattle.shapers_buffer.specs.Clusters.{in_cluster}
use Rattle.shapers_buffer.proofs.buffer.merging.set_cluster.Given as goal

abbrev pub invariant-loop-glyph : goal.invariant-loop-glyph
invariant-loop-glyph l = take l.glyph-index l.stretch ++ map (in_cluster l.cluster) (drop l.glyph-index l.stretch)
    ≡ map (in_cluster l.cluster) l.initial.stretch
