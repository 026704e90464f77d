use Rattle.std.proofs.Common.{◌≡◌, ◌++◌, take, drop}
use Rattle.shapers_buffer.specs.Clusters.{flooded}
use Rattle.shapers_buffer.proofs.buffer.merging.flood_after.Given as goal

abbrev pub invariant-loop-glyph : goal.invariant-loop-glyph
invariant-loop-glyph l = take l.glyph-index l.glyphs ++ flooded l.from l.to (drop l.glyph-index l.glyphs)
    ≡ flooded l.from l.to l.initial.glyphs
