-- Lengths, order views and single places through the merge rule.
use Rattle.std.proofs.Common.{ℕ, ◌-◌, ◌<◌, ◌≤◌, ◌≡◌, Bool, true, false, if◌then◌else◌, nat_lt, not, ◌&&◌, List, [], ◌∷◌, ◌++◌, map, length, take, drop, refl, sym, ◌∙◌, ap, subst, arith, length-append, length-take, length-drop}
use Rattle.std.proofs.lemmas.List.{length-reverse, length-map, map-append, reverse-reverse}
use Rattle.std.specs.List.{AllByRecursion}
use Rattle.shapers_buffer.specs.Glyphs.{Glyph, Glyphs}
use Rattle.shapers_buffer.specs.declared.buffer.level.BufferClusterLevel.{BufferClusterLevel}
use Rattle.shapers_buffer.specs.Glyph.{plain, without_flags, order_view}
use Rattle.shapers_buffer.proofs.MappedLists.{map-reverse}
use Rattle.shapers_buffer.specs.declared.buffer.cluster_ranges.ClusterRange.{ClusterRange}
use Rattle.shapers_buffer.specs.ClusterRanges.{with_range}
use Rattle.shapers_buffer.specs.Clusters.{in_cluster, flooded, merge, merge_all, merges, stretch_of}
use Rattle.shapers_buffer.proofs.ClusterLemmas.{flood_merged, merge_is, three_parts}
use Rattle.shapers_buffer.proofs.OneCluster.{length-flooded}

-- a stretch of at least two places merges, or nothing changes
two_cases : (n : ℕ) (a : Bool) {X : Type 0} (P : X → Type 0) (x y : X) → P y → (1 < n → P x)
    → P (if a && not (nat_lt n 2) then x else y)
two_cases n true P x y here there = grind arith
two_cases n false P x y here there = here

pub merge_cases : (P : Glyphs → Type 0) (level : BufferClusterLevel) (s e : ℕ) (gs : Glyphs)
    → P gs → (1 < e - s → P (flood_merged s e gs)) → P (merge level s e gs)
merge_cases P level s e gs here there =
    subst P (sym (merge_is level s e gs)) (two_cases (e - s) (merges level) P (flood_merged s e gs) gs here there)

length-merged : (s e : ℕ) (gs : Glyphs) → s ≤ e → e ≤ length gs → length (flood_merged s e gs) ≡ length gs
length-merged s e gs h l = simp (length-append, length-reverse, length-map, length-flooded, length-take, length-drop)
    (omega arith)

pub length-merge : (level : BufferClusterLevel) (s e : ℕ) (gs : Glyphs) → e ≤ length gs
    → length (merge level s e gs) ≡ length gs
length-merge level s e gs l =
    merge_cases (λ ms. length ms ≡ length gs) level s e gs refl (λ h. search (arith, length-merged))

pub length-merge_all : (level : BufferClusterLevel) (sts : List (ℕ × ℕ)) (gs : Glyphs)
    → AllByRecursion (λ st. st.1 ≤ length gs) sts → length (merge_all level sts gs) ≡ length gs
length-merge_all level [] gs h = refl
length-merge_all level (st ∷ sts) gs h =
    let e = length-merge level st.0 st.1 gs h.0 in
    length-merge_all level sts (merge level st.0 st.1 gs) (subst
    (λ n. AllByRecursion (λ st. st.1 ≤ n) sts) (sym e) h.1) ∙ e

pub without_flags-twice : (n : ℕ) → without_flags (without_flags n) ≡ without_flags n
without_flags-twice = omega arith

plain-in_cluster : (m : ℕ) (g : Glyph) → plain (in_cluster m g) ≡ plain g
plain-in_cluster = search arith

order_view-flooded : (c m : ℕ) (gs : Glyphs) → order_view (flooded c m gs) ≡ order_view gs
order_view-flooded c m [] = refl
order_view-flooded c m (g ∷ gs) = grind (arith, order_view-flooded c m gs)

order_view-put : (m : ℕ) (gs : Glyphs) → order_view (map (in_cluster m) gs) ≡ order_view gs
order_view-put m [] = refl
order_view-put m (g ∷ gs) = let h = plain-in_cluster m g in let i = order_view-put m gs in cc

pub order_view-merge : (level : BufferClusterLevel) (s e : ℕ) (gs : Glyphs)
    → order_view (merge level s e gs) ≡ order_view gs
order_view-merge level s e gs =
    merge_cases (λ ms. order_view ms ≡ order_view gs) level s e gs refl (λ h.
    simp (map-append, map-reverse, order_view-flooded, order_view-put, reverse-reverse) (sym
    (map-append plain (take s gs) (stretch_of s e gs ++ drop e gs) ∙ ap (λ l. order_view (take s gs) ++ l)
    (map-append plain (stretch_of s e gs) (drop e gs))) ∙ ap order_view (three_parts s e gs (omega arith))))

pub order_view-merge_all : (level : BufferClusterLevel) (sts : List (ℕ × ℕ)) (gs : Glyphs)
    → order_view (merge_all level sts gs) ≡ order_view gs
order_view-merge_all level [] gs = refl
order_view-merge_all level (st ∷ sts) gs = order_view-merge_all level sts (merge level st.0 st.1 gs)
    ∙ order_view-merge level st.0 st.1 gs

-- stretches in two lists, one list after the other
pub merge_all-append : (level : BufferClusterLevel) (xs ys : List (ℕ × ℕ)) (gs : Glyphs)
    → merge_all level (xs ++ ys) gs ≡ merge_all level ys (merge_all level xs gs)
merge_all-append level [] ys gs = refl
merge_all-append level (x ∷ xs) ys gs = merge_all-append level xs ys (merge level x.0 x.1 gs)

-- what is read of the order view alone stays through merges
map-order_view : {X : Type 0} (f : Glyph → X) → ((g : Glyph) → f (plain g) ≡ f g)
    → (gs : Glyphs) → map f (order_view gs) ≡ map f gs
map-order_view f plainly [] = refl
map-order_view f plainly (g ∷ gs) = cc (plainly g, map-order_view f plainly gs)

pub map-merge_all : {X : Type 0} (f : Glyph → X) → ((g : Glyph) → f (plain g) ≡ f g)
    → (level : BufferClusterLevel) (sts : List (ℕ × ℕ)) (gs : Glyphs) → map f (merge_all level sts gs) ≡ map f gs
map-merge_all f plainly level sts gs = cc (
  map-order_view f plainly (merge_all level sts gs),
  order_view-merge_all level sts gs,
  map-order_view f plainly gs,
)

-- the same where a run is written
pub order_view-with_range : (run : ClusterRange) (gs : Glyphs) → run.start ≤ run.end
    → order_view (with_range run gs) ≡ order_view gs
order_view-with_range run gs h =
    let s = run.start in
    let e = run.end in
    simp (map-append, order_view-put) (sym (map-append plain (take s gs) (stretch_of s e gs ++ drop e gs)
    ∙ ap (λ l. order_view (take s gs) ++ l) (map-append plain (stretch_of s e gs) (drop e gs)))
    ∙ ap order_view (three_parts s e gs h))

pub map-with_range : {X : Type 0} (f : Glyph → X) → ((g : Glyph) → f (plain g) ≡ f g)
    → (run : ClusterRange) (gs : Glyphs) → run.start ≤ run.end → map f (with_range run gs) ≡ map f gs
map-with_range f plainly run gs h =
    cc (map-order_view f plainly (with_range run gs), order_view-with_range run gs h, map-order_view f plainly gs)
