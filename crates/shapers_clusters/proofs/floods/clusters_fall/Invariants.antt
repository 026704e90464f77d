use Rattle.std.specs.Prelude.{◌≡◌, drop}
use Rattle.shapers_clusters.specs.Floods.{falls_below}
use Rattle.shapers_clusters.proofs.floods.clusters_fall.Given as goal

abbrev pub invariant-loop-glyph : goal.invariant-loop-glyph
invariant-loop-glyph l = falls_below 0 l.glyphs ≡ falls_below l.before (drop l.glyph-index l.glyphs)
