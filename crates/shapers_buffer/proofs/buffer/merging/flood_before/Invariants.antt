use Rattle.std.proofs.Common.{◌≡◌, ◌++◌, reverse, take, drop}
use Rattle.shapers_buffer.specs.Clusters.{flooded}
use Rattle.shapers_buffer.proofs.buffer.merging.flood_before.Given as goal

abbrev pub invariant-loop-i : goal.invariant-loop-i
invariant-loop-i l = reverse (flooded l.from l.to (reverse (take l.i l.glyphs))) ++ drop l.i l.glyphs
    ≡ reverse (flooded l.from l.to (reverse l.initial.glyphs))
