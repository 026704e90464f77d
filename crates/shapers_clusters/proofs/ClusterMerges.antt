-- The merge rule over clusters alone.
use Rattle.std.proofs.Common.{ℕ, zero, suc, ◌-◌, ◌==◌, ◌<◌, ◌≤◌, ◌≡◌, ◌≢◌, min, Bool, true, false, if◌then◌else◌, nat_lt, not, ◌&&◌, inl, inr, List, [], ◌∷◌, ◌++◌, map, length, get_or, reverse, take, drop, fold, refl, sym, ◌∙◌, arith}
use Rattle.std.proofs.lemmas.List.{map-append, take-map, drop-map}
use Rattle.std.proofs.lemmas.Bool.{cases_lt}
use Rattle.shapers_buffer.specs.Glyphs.{Glyph, Glyphs}
use Rattle.shapers_buffer.specs.declared.buffer.level.BufferClusterLevel.{BufferClusterLevel}
use Rattle.shapers_buffer.specs.Glyph.{clusters}
use Rattle.shapers_buffer.proofs.MappedLists.{map-reverse}
use Rattle.shapers_buffer.specs.Clusters.{least, first_cluster, in_cluster, flooded, merge, merges, stretch_of}
use Rattle.shapers_buffer.proofs.ClusterLemmas.{flood_merged, merge_is}
use Rattle.shapers_clusters.specs.ClusterMerges.{of_cluster, joined}

-- the first of a list of numbers, 0 where there is none
abbrev pub opening_run : List ℕ → ℕ
opening_run [] = 0
opening_run (c ∷ cs) = c

-- the numbers c that begin the list, made m
abbrev pub flood : ℕ → ℕ → List ℕ → List ℕ
flood c m [] = []
flood c m (x ∷ xs) = if x == c then m ∷ flood c m xs else x ∷ xs

-- a stretch of some places joined: its least cluster floods the neighbours on both sides
abbrev pub spreading : ℕ → ℕ → List ℕ → List ℕ
spreading s e cs =
    let middle = stretch_of s e cs in
    let m = least middle in
    reverse (flood (opening_run middle) m (reverse (take s cs)))
    ++ (map (λ _. m) middle ++ flood (opening_run (reverse middle)) m (drop e cs))

-- the least of a list is at most each of it, and is one of it
fold_min-start : (c : ℕ) (cs : List ℕ) → fold min c cs ≤ c
fold_min-start c [] = omega arith
fold_min-start c (x ∷ cs) = let h = fold_min-start (min c x) cs in omega arith

fold_min-le : (c : ℕ) (cs : List ℕ) (k : ℕ) → k < length cs → fold min c cs ≤ get_or cs k 0
fold_min-le c [] k h = omega arith
fold_min-le c (x ∷ cs) zero h = let i = fold_min-start (min c x) cs in omega arith
fold_min-le c (x ∷ cs) (suc k) h = fold_min-le (min c x) cs k (omega arith)

fold_min-among : (c : ℕ) (cs : List ℕ) → (k : ℕ) × (k < suc (length cs)) × (get_or (c ∷ cs) k 0 ≡ fold min c cs)
fold_min-among c [] = (0, omega arith, refl)
fold_min-among c (x ∷ cs) =
    let (k, h, e) = fold_min-among (min c x) cs in
    elim k as (λ k. k < suc (length cs) → get_or (min c x ∷ cs) k 0 ≡ fold min (min c x) cs
    → (j : ℕ) × (j < suc (suc (length cs))) × (get_or (c ∷ x ∷ cs) j 0 ≡ fold min (min c x) cs)) [
      | zero ↦ λ h e. elim (cases_lt x c)
          [ inl l ↦ (1, omega arith, omega arith) | inr l ↦ (0, omega arith, omega arith) ]
      | suc k ↦ λ h e. (suc (suc k), omega arith, e)
    ] h e

pub least-le : (cs : List ℕ) (k : ℕ) → k < length cs → least cs ≤ get_or cs k 0
least-le [] k h = omega arith
least-le (c ∷ cs) zero h = fold_min-start c cs
least-le (c ∷ cs) (suc k) h = fold_min-le c cs k (omega arith)

pub least-among : (cs : List ℕ) → 0 < length cs → (k : ℕ) × (k < length cs) × (get_or cs k 0 ≡ least cs)
least-among [] h = absurd (omega arith)
least-among (c ∷ cs) h = fold_min-among c cs

pub opening-at : (cs : List ℕ) → opening_run cs ≡ get_or cs 0 0
opening-at [] = refl
opening-at (c ∷ cs) = refl

pub opening-clusters : (gs : Glyphs) → first_cluster gs ≡ opening_run (clusters gs)
opening-clusters [] = refl
opening-clusters (g ∷ gs) = refl

cluster-in_cluster : (m : ℕ) (g : Glyph) → (in_cluster m g).cluster ≡ m
cluster-in_cluster = grind arith

clusters-flooded : (c m : ℕ) (gs : Glyphs) → clusters (flooded c m gs) ≡ flood c m (clusters gs)
clusters-flooded c m [] = refl
clusters-flooded c m (g ∷ gs) = grind (arith, clusters-flooded c m gs)

pub clusters-put : (m : ℕ) (gs : Glyphs) → clusters (map (in_cluster m) gs) ≡ map (λ _. m) (clusters gs)
clusters-put m [] = refl
clusters-put m (g ∷ gs) = let h = cluster-in_cluster m g in let i = clusters-put m gs in cc

map-if : {X Y : Type 0} (f : X → Y) (b : Bool) (x y : X) (z w : Y) → f x ≡ z → f y ≡ w
    → f (if b then x else y) ≡ (if b then z else w)
map-if f true x y z w h i = h
map-if f false x y z w h i = i

clusters-merged : (s e : ℕ) (gs : Glyphs) → clusters (flood_merged s e gs)
    ≡ (let middle = stretch_of s e (clusters gs) in let m = least middle in reverse
    (flood (opening_run middle) m (reverse (take s (clusters gs))))
    ++ (map (λ _. m) middle ++ flood (opening_run (reverse middle)) m (drop e (clusters gs))))
clusters-merged s e gs =
    simp (map-append, map-reverse, clusters-flooded, clusters-put, take-map, drop-map, opening-clusters)

clusters-flood : (level : BufferClusterLevel) (s e : ℕ) (gs : Glyphs) → clusters (merge level s e gs)
    ≡ (if merges level && not (nat_lt (e - s) 2) then spreading s e (clusters gs) else clusters gs)
clusters-flood level s e gs = cc (
  merge_is level s e gs,
  map-if clusters (merges level && not (nat_lt (e - s) 2)) (flood_merged s e gs) gs _ _ (clusters-merged s e gs) refl,
)

pub clusters-of_clusters : (cs : List ℕ) → clusters (map of_cluster cs) ≡ cs
clusters-of_clusters [] = refl
clusters-of_clusters (c ∷ cs) = cc (clusters-of_clusters cs)

pub joined_is : (level : BufferClusterLevel) (s e : ℕ) (cs : List ℕ)
    → joined level s e cs ≡ (if merges level && not (nat_lt (e - s) 2) then spreading s e cs else cs)
joined_is level s e cs = cc (clusters-flood level s e (map of_cluster cs), clusters-of_clusters cs)

-- the clusters of merged glyphs are the joined clusters
pub clusters-merge : (level : BufferClusterLevel) (s e : ℕ) (gs : Glyphs) → clusters (merge level s e gs)
    ≡ joined level s e (clusters gs)
clusters-merge level s e gs = clusters-flood level s e gs ∙ sym (joined_is level s e (clusters gs))

-- how far a flood reaches
pub record Flood (c m : ℕ) (xs ys : List ℕ) : Type 0 where
  pub end : ℕ
  pub within : end ≤ length xs
  pub same_length : length ys ≡ length xs
  pub old : (j : ℕ) → j < end → get_or xs j 0 ≡ c
  pub new : (j : ℕ) → j < end → get_or ys j 0 ≡ m
  pub edge : end < length xs → get_or xs end 0 ≢ c
  pub rest : (j : ℕ) → end ≤ j → get_or ys j 0 ≡ get_or xs j 0

flood-more : (c m : ℕ) (xs ys : List ℕ) → Flood c m xs ys → Flood c m (c ∷ xs) (m ∷ ys)
flood-more c m xs ys f = record {
  end = suc f.end;
  within = omega arith;
  same_length = omega arith;
  old = λ j h. elim j as (λ j. j < suc f.end → get_or (c ∷ xs) j 0 ≡ c)
      [ zero ↦ λ h. refl | suc j ↦ λ h. f.old j (omega arith) ] h;
  new = λ j h. elim j as (λ j. j < suc f.end → get_or (m ∷ ys) j 0 ≡ m)
      [ zero ↦ λ h. refl | suc j ↦ λ h. f.new j (omega arith) ] h;
  edge = λ h. f.edge (omega arith);
  rest = λ j h. elim j as (λ j. suc f.end ≤ j → get_or (m ∷ ys) j 0 ≡ get_or (c ∷ xs) j 0)
      [ zero ↦ λ h. omega arith | suc j ↦ λ h. f.rest j (omega arith) ] h;
}

flood-stops : (c m x : ℕ) (xs : List ℕ) → x ≢ c → Flood c m (x ∷ xs) (x ∷ xs)
flood-stops = search arith

pub flood-is : (c m : ℕ) (xs : List ℕ) → Flood c m xs (flood c m xs)
flood-is c m [] = search arith
flood-is c m (x ∷ xs) = search (arith, flood-more, flood-is c m xs)
