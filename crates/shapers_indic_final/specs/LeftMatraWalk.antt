-- Words of the walk that parts the left matras of a syllable: which have gone to their place so
-- far, and what their merges have put into two clusters.
use Rattle.std.specs.Prelude.{ℕ, ◌≡◌, ◌≢◌, ◌≤◌, ◌+◌, ◌-◌, min, Bool, true, not, nat_le, nat_lt, ◌&&◌, ◌||◌, ◌==◌, List, ◌++◌, map, drop, filter, length, reverse, slice_index, if◌then◌else◌}
use Rattle.std.specs.List.{enumerate_from, list_all, prefix_len}
use Rattle.shapers_buffer.specs.Glyphs.{Glyphs}
use Rattle.shapers_buffer.specs.declared.buffer.level.BufferClusterLevel.{BufferClusterLevel}
use Rattle.shapers_buffer.specs.Clusters.{flooded, has_cluster, in_cluster, merges, stretch_of}
use Rattle.shapers_buffer.specs.Glyph.{clusters}
use Rattle.shapers_buffer.specs.Places.{pick}
use Rattle.shapers_clusters.specs.Steps.{Step}
use Rattle.shapers_indic.specs.Glyphs.{passes, places}
use Rattle.shapers_indic_final.specs.declared.ot_shaper_indic_final.left_matras.MergedRanges.{MergedRanges}
use Rattle.shapers_indic_final.specs.FinalMatras.{is_left, left_places, matra_step}

-- the steps of the left matras before place top, of which the last one goes to p, and each further
-- one to the place before
abbrev pub steps_to : ℕ → ℕ → ℕ → Glyphs → List Step
steps_to top p e gs =
    map (λ t. matra_step (length gs) e t.1 (p - t.0)) (enumerate_from 0 (left_places top gs))

-- these glyphs in cluster m, at a level that merges
abbrev pub merge_stretch : BufferClusterLevel → ℕ → Glyphs → Glyphs
merge_stretch level m gs = if merges level then map (in_cluster m) gs else gs

-- whether a left matra stands at place j, if those from i on and before top have gone
abbrev pub has_gone : ℕ → ℕ → Glyphs → ℕ → Bool
has_gone i top gs j = nat_le i j && (nat_lt j top && passes is_left gs j)

abbrev pub has_stayed : ℕ → ℕ → Glyphs → ℕ → Bool
has_stayed i top gs j = not (has_gone i top gs j)

-- the places that a walk lists: of what has gone, or of what has stayed
abbrev pub is_listed : Bool → ℕ → ℕ → Glyphs → ℕ → Bool
is_listed gone i top gs j = if gone then has_gone i top gs j else has_stayed i top gs j

-- what has stayed, and what has gone, of the places from a to b
abbrev pub staying : ℕ → ℕ → Glyphs → ℕ → ℕ → Glyphs
staying i top gs a b = pick (filter (has_stayed i top gs) (places a b)) gs

abbrev pub gone : ℕ → ℕ → Glyphs → ℕ → ℕ → Glyphs
gone i top gs a b = pick (filter (has_gone i top gs) (places a b)) gs

-- whether a flood of cluster c from behind passes place j
abbrev pub flood_passes : ℕ → ℕ → ℕ → Glyphs → ℕ → Bool
flood_passes i top c gs j = has_gone i top gs j || slice_index (clusters gs) j == c

-- the glyphs as they stand then, where the first to go went to p: what has stayed, and with it
-- those in the one cluster; what has gone, and with what follows it those in the other
abbrev pub as_partitioned : BufferClusterLevel → ℕ → ℕ → ℕ → MergedRanges → Glyphs →
    Glyphs
as_partitioned level i top p runs gs =
    (staying i top gs 0 runs.start
    ++ merge_stretch level runs.before (staying i top gs runs.start p))
    ++ (merge_stretch level runs.cluster (gone i top gs 0 p ++ stretch_of p runs.end gs)
    ++ drop runs.end gs)

-- from place q to `from` all that has stayed is in cluster c, and what has stayed before q doesn't
-- end with a glyph of it
pub record Reaches (i top c from q : ℕ) (gs : Glyphs) : Type 0 where
  pub within : q ≤ from
  pub equal : list_all (has_cluster c) (staying i top gs q from) ≡ true
  pub stops : (m : ℕ) → let front = reverse (staying i top gs 0 q) in flooded c m front ≡ front

-- the cluster of the matra at place i
abbrev pub own_cluster : ℕ → MergedRanges → Glyphs → ℕ
own_cluster i runs gs =
    if nat_lt i runs.start then slice_index (clusters gs) i else runs.before

-- what the merge of the matra at place i makes of the two ranges, before it goes
pub record Merged (i top : ℕ) (old new : MergedRanges) (gs : Glyphs) : Type 0 where
  pub cluster : new.cluster ≡ min (own_cluster i old gs) old.cluster
  pub end : new.end ≡ old.end + prefix_len (has_cluster old.cluster) (drop old.end gs)
  pub floods : own_cluster i old gs ≡ old.before →
      Reaches i top old.before old.start new.start gs × (new.before ≡ new.cluster)
  pub spares : own_cluster i old gs ≢ old.before →
      (new.start ≡ old.start) × (new.before ≡ old.before)
