-- Glyphs that are in one cluster, and what their merges do.
use Rattle.std.proofs.Common.{◌≡◌, ◌<◌, ◌≤◌, ℕ, ◌-◌, ◌==◌, true, List, [], ◌∷◌, ◌++◌, min, map, length, get_or, drop, reverse, refl, ◌∙◌, arith, length-take}
use Rattle.std.specs.Prelude.{fold}
use Rattle.std.specs.List.{list_all}
use Rattle.std.proofs.lemmas.List.{length-reverse, reverse-append, reverse-reverse, length-map, drop-drop, take_at, drop_at, get_or-drop}
use Rattle.std.proofs.Math.Seq.{take-add}
use Rattle.std.proofs.lemmas.Bool.{and_parts, eqb-true}
use Rattle.shapers_buffer.specs.Glyphs.{Glyphs}
use Rattle.shapers_buffer.specs.Glyph.{clusters, default_glyph}
use Rattle.shapers_buffer.specs.Clusters.{least, first_cluster, last_cluster, has_cluster, in_cluster, in_one_cluster, flooded, merged, stretch_of}
use Rattle.shapers_buffer.proofs.ClusterLemmas.{flooded_itself, merged_is, length-stretch}

-- glyphs of a cluster stay when they are put into it; their least with one that isn't above
pub in_cluster_stays : (c : ℕ) (gs : Glyphs) → list_all (has_cluster c) gs ≡ true → map (in_cluster c) gs ≡ gs
in_cluster_stays c [] h = refl
in_cluster_stays c (g ∷ gs) h =
    search (arith, refl, in_cluster_stays c gs (and_parts (g.cluster == c) (list_all (has_cluster c) gs) h).1)

pub least_stays : (a c : ℕ) (gs : Glyphs) → a ≤ c → list_all (has_cluster c) gs ≡ true → fold min a (clusters gs) ≡ a
least_stays a c [] h all = refl
least_stays a c (g ∷ gs) h all =
    search (arith, least_stays a c gs h (and_parts (g.cluster == c) (list_all (has_cluster c) gs) all).1)

pub first_of_front : (gs hs : Glyphs) → 0 < length gs → first_cluster (gs ++ hs) ≡ first_cluster gs
first_of_front [] hs some = absurd (omega arith)
first_of_front (g ∷ gs) hs some = refl

pub last_of_end : (gs hs : Glyphs) → 0 < length hs → last_cluster (gs ++ hs) ≡ last_cluster hs
last_of_end = search (arith, reverse-append, length-reverse)

-- the last of glyphs that are all in a cluster
pub last_stays : (c : ℕ) (gs : Glyphs) → 0 < length gs → list_all (has_cluster c) gs ≡ true → last_cluster gs ≡ c
last_stays c [] some h = absurd (omega arith)
last_stays c (g ∷ []) some h = search (arith, eqb-true, and_parts)
last_stays c (g ∷ (k ∷ gs)) some h =
    last_of_end (g ∷ []) (k ∷ gs) (omega arith)
    ∙ last_stays c (k ∷ gs) (omega arith) (and_parts (g.cluster == c) (list_all (has_cluster c) (k ∷ gs)) h).1

-- glyphs in one cluster stay at their merge
pub one_stays : (before gs behind : Glyphs) → 0 < length gs → in_one_cluster gs ≡ true
    → reverse (flooded (first_cluster gs) (least (clusters gs)) (reverse before))
    ++ (map (in_cluster (least (clusters gs))) gs ++ flooded (last_cluster gs) (least (clusters gs)) behind)
    ≡ before ++ (gs ++ behind)
one_stays before [] behind some one = absurd (omega arith)
one_stays before (g ∷ gs) behind some one =
    let c = g.cluster in
    let all = g ∷ gs in
    search (
      arith,
      least_stays,
      flooded_itself,
      reverse-reverse before,
      in_cluster_stays c all one,
      last_stays c all some one,
      flooded_itself c behind,
    )

-- a stretch in two
pub stretch_in_two : {X : Type 0} (s mid e : ℕ) (xs : List X) → s ≤ mid → mid ≤ e
    → stretch_of s e xs ≡ stretch_of s mid xs ++ stretch_of mid e xs
stretch_in_two s mid e xs = search (arith, take-add (mid - s) (e - mid) (drop s xs), drop-drop)

-- the cluster that the code reads
pub cluster_at : (s mid : ℕ) (gs : Glyphs) → s < mid → (get_or gs s default_glyph).cluster
    ≡ first_cluster (stretch_of s mid gs)
cluster_at s mid gs = search (arith, get_or-drop s gs 0 default_glyph)

-- after a merge its stretch is in one cluster
pub length-flooded : (c m : ℕ) (gs : Glyphs) → length (flooded c m gs) ≡ length gs
length-flooded c m [] = refl
length-flooded c m (g ∷ gs) = grind (arith, length-flooded c m gs)

pub all_in_cluster : (m : ℕ) (gs : Glyphs) → list_all (has_cluster m) (map (in_cluster m) gs) ≡ true
all_in_cluster m [] = refl
all_in_cluster m (g ∷ gs) = grind (arith, all_in_cluster m gs)

one_after_map : (m : ℕ) (gs : Glyphs) → in_one_cluster (map (in_cluster m) gs) ≡ true
one_after_map m [] = refl
one_after_map m (g ∷ gs) = search (arith, all_in_cluster)

pub one_merged : (s e : ℕ) (gs : Glyphs) → s ≤ e → e ≤ length gs
    → in_one_cluster (stretch_of s e (merged s e gs)) ≡ true
one_merged = search (
  arith,
  merged_is,
  drop_at,
  length-reverse,
  length-flooded,
  length-take,
  take_at,
  length-map,
  length-stretch,
  one_after_map,
)
