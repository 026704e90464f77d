-- Texts in which merges may flood again and again what stands before them.
use Rattle.std.specs.Prelude.{ℕ, ◌||◌, nat_lt, Bool, false, if◌then◌else◌, [], ◌∷◌, length}
use Rattle.shapers_buffer.specs.Glyphs.{Glyphs}
use Rattle.shapers_buffer.specs.Clusters.{first_cluster, last_cluster}

-- whether a glyph has a cluster below that of the one before it, and the first one below c
abbrev pub falls_below : ℕ → Glyphs → Bool
falls_below c [] = false
falls_below c (g ∷ gs) = nat_lt g.cluster c || falls_below g.cluster gs

abbrev pub clusters_fall : Glyphs → Bool
clusters_fall gs = falls_below 0 gs

-- the same of more than 256 glyphs; of fewer, whether the last cluster is below the first one
abbrev pub floods_again : Glyphs → Bool
floods_again gs =
    if nat_lt 256 (length gs) then clusters_fall gs else nat_lt (last_cluster gs) (first_cluster gs)
