use Rattle.std.proofs.Common.{◌≡◌, drop}
use Rattle.shapers_buffer.specs.Clusters.{least}
use Rattle.shapers_buffer.specs.Glyph.{clusters}
use Rattle.shapers_buffer.proofs.ClusterLemmas.{least_from}
use Rattle.shapers_buffer.proofs.buffer.merging.least_cluster.Given as goal

abbrev pub invariant-loop-glyph : goal.invariant-loop-glyph
invariant-loop-glyph l = least_from l.least (drop l.glyph-index l.stretch) ≡ least (clusters l.stretch)
