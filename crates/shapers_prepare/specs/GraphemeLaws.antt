-- Laws of graphemes, their clusters and their order.
use Rattle.std.specs.Prelude.{ℕ, ◌≡◌, ◌<◌, ◌-◌, true, flat_map, length, slice_index_or}
use Rattle.shapers_buffer.specs.Glyphs.{Glyphs}
use Rattle.shapers_buffer.specs.declared.buffer.level.BufferClusterLevel.TheVariants.{MonotoneGraphemes}
use Rattle.shapers_buffer.specs.Clusters.{stretch_of}
use Rattle.shapers_buffer.specs.Glyph.{clusters, default_glyph}
use Rattle.shapers_buffer.specs.Properties.{is_continuation}
use Rattle.shapers_clusters.specs.Cuts.{ExactCuts, IsMonotone, ShareCluster}
use Rattle.shapers_prepare.specs.Graphemes.{clusters_formed, graphemes}

-- The graphemes, one after another, are the text: reversing it loses none and takes none apart.
abbrev pub GraphemesCover : Type 0
GraphemesCover = (gs : Glyphs) →
    flat_map (λ st. stretch_of st.0 st.1 gs) (graphemes gs) ≡ gs

-- No grapheme is split at the level of graphemes: a glyph that carries on the one before it has its
-- cluster.
abbrev pub NoGraphemeSplits : Type 0
NoGraphemeSplits = (gs : Glyphs) (p : ℕ) → 0 < p → p < length gs →
    is_continuation (slice_index_or gs p default_glyph).unicode_props ≡ true →
    ShareCluster (clusters (clusters_formed MonotoneGraphemes gs)) (p - 1) p

-- Where clusters never decrease, or never increase, they still do so, each is one that the text
-- had, and they change exactly where two graphemes meet that shared none.
abbrev pub FormedCutsAreExact : Type 0
FormedCutsAreExact = (gs : Glyphs) → IsMonotone (clusters gs) →
    ExactCuts (clusters gs) (graphemes gs) (clusters (clusters_formed MonotoneGraphemes gs))
    × IsMonotone (clusters (clusters_formed MonotoneGraphemes gs))
