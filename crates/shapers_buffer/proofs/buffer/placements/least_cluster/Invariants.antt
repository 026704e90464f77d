-- The least so far, with those that are left.
use Rattle.std.proofs.Common.{◌≡◌, ◌<◌, min}
use Rattle.std.specs.Prelude.{fold}
use Rattle.shapers_buffer.specs.Clusters.{least, stretch_of}
use Rattle.shapers_buffer.specs.Glyph.{clusters}
use Rattle.shapers_buffer.proofs.buffer.placements.least_cluster.Given as goal

abbrev pub invariant-loop-i : goal.invariant-loop-i
invariant-loop-i l = (l.start < l.i) × (fold min l.least (clusters (stretch_of l.i l.end l.glyphs)) ≡ least (clusters (stretch_of l.start l.end l.glyphs)))
