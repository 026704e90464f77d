-- What merges and moves do to each glyph: no cluster rises, and a glyph keeps its flags unless its cluster fell.
use Rattle.std.proofs.Common.{ℕ, suc, ◌-◌, ◌%◌, ◌<◌, ◌≤◌, ◌≡◌, length, get_or, List, [], ◌∷◌, ◌++◌, map, reverse, take, drop, sym, subst, arith, length-take, length-drop}
use Rattle.std.specs.List.{AllByRecursion, AllZip}
use Rattle.std.proofs.lemmas.List.{reverse-append, reverse-reverse}
use Rattle.shapers_buffer.specs.Glyphs.{Glyph, Glyphs}
use Rattle.shapers_buffer.specs.declared.buffer.level.BufferClusterLevel.{BufferClusterLevel}
use Rattle.shapers_buffer.specs.Glyph.{clusters, without_flags}
use Rattle.shapers_buffer.specs.Clusters.{least, first_cluster, last_cluster, in_cluster, flooded, merge, merge_all, stretch_of}
use Rattle.shapers_clusters.proofs.ClusterMerges.{least-le}
use Rattle.shapers_clusters.proofs.Merging.{merge_cases, length-merge}
use Rattle.shapers_clusters.proofs.Appended.{least-last}
use Rattle.shapers_clusters.specs.Flags.{FallsTo, FlagsFall}
use Rattle.shapers_buffer.proofs.ClusterLemmas.{flood_merged, three_parts}

pub in_cluster-same : (g : Glyph) → in_cluster g.cluster g ≡ g
in_cluster-same = grind arith

in_cluster-other : (m : ℕ) (g : Glyph) → m < g.cluster
    → in_cluster m g ≡ record g { cluster = m; mask = without_flags g.mask }
in_cluster-other = grind arith

falls-same : (g : Glyph) → FallsTo g g
falls-same = search arith

-- the glyph in a cluster that isn't higher
falls_into : (m : ℕ) (g : Glyph) → m ≤ g.cluster → FallsTo g (in_cluster m g)
falls_into = search arith

falls_on : (x y z : Glyph) → FallsTo x y → FallsTo y z → FallsTo x z
falls_on = search arith

pub flags_fall : (x y : Glyph) → FallsTo x y → FlagsFall x y
flags_fall = search arith

pub all_same : (gs : Glyphs) → AllZip FallsTo gs gs
all_same [] = tt
all_same (g ∷ gs) = (falls-same g, all_same gs)

pub all_over : {X Y Z : Type 0} (R : X → Y → Type 0) (S : Y → Z → Type 0) (T : X → Z → Type 0)
    → ((x : X) (y : Y) (z : Z) → R x y → S y z → T x z) → (xs : List X) (ys : List Y) (zs : List Z) → AllZip R xs ys
    → AllZip S ys zs → AllZip T xs zs
all_over R S T f [] [] [] h i = tt
all_over R S T f [] (y ∷ ys) zs h i = absurd h
all_over R S T f (x ∷ xs) [] zs h i = absurd h
all_over R S T f (x ∷ xs) (y ∷ ys) (z ∷ zs) h i = (f x y z h.0 i.0, all_over R S T f xs ys zs h.1 i.1)
all_over R S T f _ _ _ h i = absurd i

pub all_weaker : {X Y : Type 0} (R S : X → Y → Type 0) → ((x : X) (y : Y) → R x y → S x y) → (xs : List X) (ys : List Y)
    → AllZip R xs ys → AllZip S xs ys
all_weaker R S f [] [] h = tt
all_weaker R S f (x ∷ xs) (y ∷ ys) h = (f x y h.0, all_weaker R S f xs ys h.1)
all_weaker R S f _ _ h = absurd h

pub all_on : (xs ys zs : Glyphs) → AllZip FallsTo xs ys → AllZip FallsTo ys zs → AllZip FallsTo xs zs
all_on = search (arith, all_over)

pub all_append : {X : Type 0} (R : X → X → Type 0) (xs ys zs ws : List X) → AllZip R xs ys → AllZip R zs ws
    → AllZip R (xs ++ zs) (ys ++ ws)
all_append R [] [] zs ws h i = i
all_append R (x ∷ xs) (y ∷ ys) zs ws h i = (h.0, all_append R xs ys zs ws h.1 i)
all_append R _ _ zs ws h i = absurd h

pub all_reverse : {X : Type 0} (R : X → X → Type 0) (xs ys : List X) → AllZip R xs ys → AllZip R (reverse xs) (reverse ys)
all_reverse R [] [] h = tt
all_reverse R [] (y ∷ ys) h = absurd h
all_reverse R (x ∷ xs) [] h = absurd h
all_reverse {X} R (x ∷ xs) (y ∷ ys) h = search (reverse-append (x ∷ []) xs, reverse-append (y ∷ []) ys, all_append R (reverse xs) (reverse ys) (x ∷ []) (y ∷ []) (all_reverse R xs ys h.1) (h.0, tt))

all_put : (m : ℕ) (gs : Glyphs) → ((k : ℕ) → k < length (clusters gs) → m ≤ get_or (clusters gs) k 0)
    → AllZip FallsTo gs (map (in_cluster m) gs)
all_put m [] h = tt
all_put m (g ∷ gs) h = (falls_into m g (h 0 (omega arith)), all_put m gs (λ k l. h (suc k) (omega arith)))

pub flooded-hit : (c m : ℕ) (g : Glyph) (gs : Glyphs) → g.cluster ≡ c
    → flooded c m (g ∷ gs) ≡ in_cluster m g ∷ flooded c m gs
flooded-hit = grind arith

pub flooded-miss : (c m : ℕ) (g : Glyph) (gs : Glyphs) → (g.cluster ≡ c → ⊥) → flooded c m (g ∷ gs) ≡ g ∷ gs
flooded-miss = grind arith

all_flooded : (c m : ℕ) (gs : Glyphs) → m ≤ c → AllZip FallsTo gs (flooded c m gs)
all_flooded c m [] h = tt
all_flooded c m (g ∷ gs) h = search (arith, all_same, all_flooded c m gs h)

least-first : (gs : Glyphs) → 0 < length gs → least (clusters gs) ≤ first_cluster gs
least-first [] h = omega arith
least-first (g ∷ gs) h = least-le (clusters (g ∷ gs)) 0 (omega arith)

merged-falls : (s e : ℕ) (gs : Glyphs) → 1 < e - s → e ≤ length gs → AllZip FallsTo gs (flood_merged s e gs)
merged-falls s e gs h l =
    let middle = stretch_of s e gs in
    let m = least (clusters middle) in
    let n : length middle ≡ e - s = search (arith, length-take, length-drop) in
    search (
      arith,
      three_parts s e gs (omega arith),
      all_append FallsTo (take s gs) _ _ _
          (subst (λ xs. AllZip FallsTo xs (reverse (flooded (first_cluster middle) m (reverse (take s gs)))))
          (reverse-reverse (take s gs)) (all_reverse FallsTo (reverse (take s gs)) _ (all_flooded (first_cluster
          middle) m (reverse (take s gs)) (least-first middle (omega arith)))))
          (all_append FallsTo middle _ _ _ (all_put m middle (λ k x. least-le (clusters middle) k x)) (all_flooded
          (last_cluster middle) m (drop e gs) (least-last middle (omega arith)))),
    )

-- one merge, and several: each glyph falls to the one in its place
pub merge-falls : (level : BufferClusterLevel) (s e : ℕ) (gs : Glyphs) → e ≤ length gs
    → AllZip FallsTo gs (merge level s e gs)
merge-falls level s e gs l = merge_cases (AllZip FallsTo gs) level s e gs (all_same gs) (λ h. merged-falls s e gs h l)

pub merge_all-falls : (level : BufferClusterLevel) (sts : List (ℕ × ℕ)) (gs : Glyphs)
    → AllByRecursion (λ st. st.1 ≤ length gs) sts → AllZip FallsTo gs (merge_all level sts gs)
merge_all-falls level [] gs h = all_same gs
merge_all-falls level (st ∷ sts) gs h = search (
  arith,
  all_on,
  merge-falls,
  merge_all-falls level sts (merge level st.0 st.1 gs)
      (subst (λ n. AllByRecursion (λ st. st.1 ≤ n) sts) (sym (length-merge level st.0 st.1 gs h.0)) h.1),
)

-- one after another, place by place
pub flags_on : (x y z : Glyph) → FlagsFall x y → FlagsFall y z → FlagsFall x z
flags_on = search arith

pub all_flags_on : (xs ys zs : Glyphs) → AllZip FlagsFall xs ys → AllZip FlagsFall ys zs → AllZip FlagsFall xs zs
all_flags_on = search (arith, all_over)

-- a glyph that falls, and one that keeps cluster and glyph flags
pub all_flags_fall : (xs ys : Glyphs) → AllZip FallsTo xs ys → AllZip FlagsFall xs ys
all_flags_fall = search (arith, all_weaker)

pub flags_kept : (x y : Glyph) → y.cluster ≡ x.cluster → y.mask % 8 ≡ x.mask % 8 → FlagsFall x y
flags_kept = search arith
