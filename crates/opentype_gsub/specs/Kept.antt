-- What lookups keep of clusters.
use Rattle.std.specs.Prelude.{◌≡◌, true}
use Rattle.std.specs.List.{All, Contains}
use Rattle.shapers_buffer.specs.Glyphs.{Glyphs}
use Rattle.shapers_buffer.specs.Glyph.{clusters}
use Rattle.shapers_buffer.specs.Clusters.{merges}
use Rattle.shapers_buffer.specs.declared.buffer.level.BufferClusterLevel.{BufferClusterLevel}
use Rattle.shapers_clusters.specs.Cuts.{IsMonotone}

-- each cluster is one that the text had; and at the levels that merge clusters still rise, or fall
pub record KeepsTextClusters (level : BufferClusterLevel) (old new : Glyphs) : Type 0 where
  pub none : All (Contains (clusters old)) (clusters new)
  pub mono : merges level ≡ true → IsMonotone (clusters old) → IsMonotone (clusters new)
