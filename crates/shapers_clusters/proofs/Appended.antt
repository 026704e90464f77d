-- Default glyphs at the end of a list stay as they are while stretches before them merge.
use Rattle.std.proofs.Common.{ℕ, zero, suc, ◌-◌, ◌<◌, ◌≤◌, ◌≡◌, ◌≢◌, ◌&&◌, Bool, true, false, not, nat_lt, if◌then◌else◌, List, [], ◌∷◌, ◌++◌, map, length, get_or, reverse, replicate, refl, sym, ◌∙◌, ap, subst, arith, append_assoc, length-drop}
use Rattle.std.specs.List.{AllByRecursion}
use Rattle.std.proofs.lemmas.List.{length-map, get_or-reverse, take-append-le, drop-append-le}
use Rattle.shapers_buffer.specs.Glyphs.{Glyphs}
use Rattle.shapers_buffer.specs.declared.buffer.level.BufferClusterLevel.{BufferClusterLevel}
use Rattle.shapers_buffer.specs.Glyph.{clusters, default_glyph}
use Rattle.shapers_buffer.specs.Clusters.{least, first_cluster, last_cluster, in_cluster, flooded, merge, merge_all, merges}
use Rattle.shapers_buffer.proofs.MappedLists.{map-reverse}
use Rattle.shapers_clusters.proofs.ClusterMerges.{opening-clusters, least-le}
use Rattle.shapers_clusters.proofs.Merging.{length-merge}
use Rattle.shapers_buffer.proofs.ClusterLemmas.{flood_merged, merge_is}

pub flooded-same : (c : ℕ) (gs : Glyphs) → flooded c c gs ≡ gs
flooded-same c [] = refl
flooded-same c (g ∷ gs) = grind (arith, flooded-same c gs)

flooded-away : (c m n : ℕ) (gs : Glyphs) → c ≢ 0 → flooded c m (gs ++ replicate n default_glyph)
    ≡ flooded c m gs ++ replicate n default_glyph
flooded-away c m zero [] ne = refl
flooded-away c m (suc n) [] ne = grind arith
flooded-away c m n (g ∷ gs) ne = grind (arith, flooded-away c m n gs ne)

-- the least cluster is at most the last one
pub least-last : (gs : Glyphs) → 0 < length gs → least (clusters gs) ≤ last_cluster gs
least-last gs h =
    let e : last_cluster gs ≡ get_or (reverse (clusters gs)) 0 0 =
    search (arith, opening-clusters, map-reverse) in
    let n : length (clusters gs) ≡ length gs = length-map gs (λ g. g.cluster) in
    let f = get_or-reverse (clusters gs) 0 0 (omega arith) in
    let l = least-le (clusters gs) (length (clusters gs) - 1 - 0) (omega arith) in
    omega arith

-- a merged list, of its three parts
abbrev pub assembled : Glyphs → Glyphs → Glyphs → Glyphs
assembled front middle rest = let m =
    least (clusters middle) in reverse (flooded (first_cluster middle) m (reverse front))
    ++ (map (in_cluster m) middle ++ flooded (last_cluster middle) m rest)

merged-appended : (s e n : ℕ) (gs : Glyphs) → 1 < e - s → e ≤ length gs
    → flood_merged s e (gs ++ replicate n default_glyph) ≡ flood_merged s e gs ++ replicate n default_glyph
merged-appended = search (arith, take-append-le, drop-append-le, length-drop, flooded-same, flooded-away, least-last, append_assoc)

pub two_sides : (n : ℕ) (a : Bool) {X : Type 0} (R : X → X → Type 0) (x y v w : X) → R y w → (1 < n → R x v)
    → R (if a && not (nat_lt n 2) then x else y) (if a && not (nat_lt n 2) then v else w)
two_sides n true R x y v w here there = grind arith
two_sides n false R x y v w here there = here

-- glyphs appended behind the end of the stretch stay as they are
pub merge-appended : (level : BufferClusterLevel) (s e n : ℕ) (gs : Glyphs) → e ≤ length gs
    → merge level s e (gs ++ replicate n default_glyph) ≡ merge level s e gs ++ replicate n default_glyph
merge-appended level s e n gs l =
    let r = replicate n default_glyph in
    merge_is level s e (gs ++ r)
    ∙ two_sides (e - s) (merges level) (λ x y. x ≡ y ++ r) (flood_merged s e (gs ++ r)) (gs ++ r) (flood_merged s e gs)
    gs refl (λ h. merged-appended s e n gs h l) ∙ ap (λ l. l ++ r) (sym (merge_is level s e gs))

pub merge_all-appended : (level : BufferClusterLevel) (n : ℕ) (sts : List (ℕ × ℕ)) (gs : Glyphs)
    → AllByRecursion (λ st. st.1 ≤ length gs) sts → merge_all level sts (gs ++ replicate n default_glyph)
    ≡ merge_all level sts gs ++ replicate n default_glyph
merge_all-appended level n [] gs h = refl
merge_all-appended level n (st ∷ sts) gs h = search (
  merge-appended,
  merge_all-appended level n sts (merge level st.0 st.1 gs)
      (subst (λ k. AllByRecursion (λ st. st.1 ≤ k) sts) (sym (length-merge level st.0 st.1 gs h.0)) h.1),
)
