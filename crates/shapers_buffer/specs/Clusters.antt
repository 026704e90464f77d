-- The merge rule on the list of glyphs.
use Rattle.std.specs.Prelude.{ℕ, ◌-◌, ◌+◌, ◌==◌, min, nat_lt, Bool, true, false, not, ◌&&◌, List, [], ◌∷◌, ◌++◌, map, reverse, take, drop, fold, if◌then◌else◌}
use Rattle.std.specs.List.{list_all, prefix_len, suffix_len}
use Rattle.shapers_buffer.specs.Glyphs.{Glyph, Glyphs}
use Rattle.shapers_buffer.specs.declared.buffer.level.BufferClusterLevel.{BufferClusterLevel}
use Rattle.shapers_buffer.specs.declared.buffer.level.BufferClusterLevel.TheVariants.{MonotoneGraphemes, MonotoneCharacters, Characters}
use Rattle.shapers_buffer.specs.Glyph.{without_flags, clusters}

-- the least of a list of numbers, 0 where there is none
abbrev pub least : List ℕ → ℕ
least [] = 0
least (c ∷ cs) = fold min c cs

-- the cluster of the first glyph, and of the last one
abbrev pub first_cluster : Glyphs → ℕ
first_cluster [] = 0
first_cluster (g ∷ gs) = g.cluster

abbrev pub last_cluster : Glyphs → ℕ
last_cluster gs = first_cluster (reverse gs)

-- the glyph in cluster m; without its glyph flags if that is another one
abbrev pub in_cluster : ℕ → Glyph → Glyph
in_cluster m g = if g.cluster == m then g else record g { cluster = m; mask = without_flags g.mask }

-- the stretch from place s to place e, e excluded, and the list with that stretch changed by f
abbrev pub stretch_of : {X : Type 0} → ℕ → ℕ → List X → List X
stretch_of s e xs = take (e - s) (drop s xs)

abbrev pub with_stretch : {X : Type 0} → ℕ → ℕ → (List X → List X) → List X → List X
with_stretch s e f xs = take s xs ++ (f (stretch_of s e xs) ++ drop e xs)

abbrev pub has_cluster : ℕ → Glyph → Bool
has_cluster c g = g.cluster == c

-- the start of the stretch, moved down over glyphs directly before it in its first one's cluster
abbrev pub low : ℕ → ℕ → Glyphs → ℕ
low s e gs = s - suffix_len (has_cluster (first_cluster (stretch_of s e gs))) (take s gs)

-- its end, moved up over the glyphs directly behind it that have the cluster of its last glyph
abbrev pub high : ℕ → ℕ → Glyphs → ℕ
high s e gs = e + prefix_len (has_cluster (last_cluster (stretch_of s e gs))) (drop e gs)

-- all glyphs from low to high in the least cluster of the stretch
abbrev pub merged : ℕ → ℕ → Glyphs → Glyphs
merged s e gs = with_stretch (low s e gs) (high s e gs)
    (map (in_cluster (least (clusters (stretch_of s e gs))))) gs

-- whether the level merges clusters at all
abbrev pub merges : BufferClusterLevel → Bool
merges MonotoneGraphemes = true
merges MonotoneCharacters = true
merges Characters = false

-- the merge rule: nothing for fewer than two places, and nothing at level Characters
abbrev pub merge : BufferClusterLevel → ℕ → ℕ → Glyphs → Glyphs
merge level s e gs = if merges level && not (nat_lt (e - s) 2) then merged s e gs else gs

-- the stretches merged one after another
abbrev pub merge_all : BufferClusterLevel → List (ℕ × ℕ) → Glyphs →
    Glyphs
merge_all level [] gs = gs
merge_all level (st ∷ sts) gs = merge_all level sts (merge level st.0 st.1 gs)

-- whether all these glyphs are in one cluster
abbrev pub in_one_cluster : Glyphs → Bool
in_one_cluster gs = list_all (has_cluster (first_cluster gs)) gs

-- in the code: the glyphs of cluster c that begin the list, in cluster m
abbrev pub flooded : ℕ → ℕ → Glyphs → Glyphs
flooded c m [] = []
flooded c m (g ∷ gs) = if g.cluster == c then in_cluster m g ∷ flooded c m gs else g ∷ gs
