-- The merge rule over clusters alone.
use Rattle.std.specs.Prelude.{ℕ, List, [], ◌∷◌, map}
use Rattle.shapers_buffer.specs.Glyphs.{Glyph}
use Rattle.shapers_buffer.specs.declared.buffer.level.BufferClusterLevel.{BufferClusterLevel}
use Rattle.shapers_buffer.specs.Glyph.{default_glyph, clusters}
use Rattle.shapers_buffer.specs.Clusters.{merge}

-- a glyph of which only the cluster counts
abbrev pub of_cluster : ℕ → Glyph
of_cluster c = record default_glyph { cluster = c }

-- the merge rule over clusters alone: those that glyphs of these clusters get
abbrev pub joined : BufferClusterLevel → ℕ → ℕ → List ℕ → List ℕ
joined level s e cs = clusters (merge level s e (map of_cluster cs))

-- the stretches joined one after another
abbrev pub joined_all : BufferClusterLevel → List (ℕ × ℕ) → List ℕ → List ℕ
joined_all level [] cs = cs
joined_all level (st ∷ sts) cs = joined_all level sts (joined level st.0 st.1 cs)
