-- The steps of the initial reordering fit their syllable and take each of its places once.
use Rattle.std.proofs.Common.{ℕ, zero, suc, ◌+◌, ◌-◌, ◌<◌, ◌≤◌, ◌≡◌, ◌==◌, Bool, true, false, max, cond, List, [], ◌∷◌, ◌++◌, length, take, drop, slice_index, Option, None, Some, refl, sym, ◌∙◌, ap, subst, arith, append_assoc, if◌then◌else◌, inl, inr}
use Rattle.std.specs.Prelude.{filter, fold, nat_lt, ◌||◌}
use Rattle.std.specs.List.{AllByRecursion, range_with_len}
use Rattle.std.specs.List.Sorted.{IsPermutation}
use Rattle.std.proofs.lemmas.Bool.{and_parts, cases_Bool, true≢false}
use Rattle.std.proofs.lemmas.List.Sorted.{IsPermutation-append_comm, IsPermutation-append_left, IsPermutation-append_right, IsPermutation-refl}
use Rattle.shapers_buffer.specs.Glyphs.{Glyphs}
use Rattle.shapers_buffer.specs.declared.buffer.tag.Script.{Script}
use Rattle.shapers_buffer.specs.Clusters.{stretch_of}
use Rattle.shapers_buffer.proofs.ClusterLemmas.{three_parts}
use Rattle.shapers_buffer.proofs.MappedLists.{all-mapped, all-range}
use Rattle.shapers_base.specs.declared.plan.ot_category_t.TheConstants.{OT_H}
use Rattle.shapers_clusters.specs.Cuts.{EndWithin}
use Rattle.shapers_clusters.specs.Steps.{FitsStep, Permutes}
use Rattle.shapers_clusters.proofs.Permuted.{fits_permuted, length_permuted, still_permutes, swap_permutes, within_permuted}
use Rattle.shapers_clusters.proofs.Picks.{within_at}
use Rattle.shapers_clusters.proofs.Swaps.{still_moves_merged, swap_moves_merged}
use Rattle.shapers_clusters.proofs.Widened.{stretch-rest}
use Rattle.shapers_indic.specs.Glyphs.{has_category, passes, places}
use Rattle.shapers_indic.proofs.PlaceSearch.{PlaceWithin, greatest_within}
use Rattle.shapers_indic_initial.specs.InitialBase.{joiner_comes_first, begins_with_ra_h_zwj}
use Rattle.shapers_indic_initial.specs.InitialOrder.{cycle, cycle_stretch, cycle_stretches, leads_cycle, ordered_base, indic_ordered_places, ordered_stretches, way_to}
use Rattle.shapers_indic_initial.specs.InitialPositions.{halant_after, halant_from, halant_places, halant_to, is_passed_by_halant, last_after_halant, moved_behind}
use Rattle.shapers_indic_initial.specs.InitialReordering.{halant_step, in_indic_order, joiner_step, indic_order_step}
use Rattle.shapers_indic_initial.specs.InitialRules.{Rules}
use Rattle.shapers_indic_initial.specs.Proved.OrderedPlaces.{ordered_permutes, places_all}

-- an element moved behind another, and the older specification's H
pub moved_behind_permutes : {X : Type 0} (h j : ℕ) (xs : List X) → h ≤ j → IsPermutation xs (moved_behind h j xs)
moved_behind_permutes h j xs l =
    let a = take h xs in
    let one = stretch_of h (h + 1) xs in
    let over = stretch_of (h + 1) (j + 1) xs in
    let behind = drop (j + 1) xs in
    let parts : a ++ ((one ++ over) ++ behind) ≡ xs =
    ap (λ ys. a ++ ys) (append_assoc one over behind
    ∙ ap (λ ys. one ++ ys) (stretch-rest (h + 1) (j + 1) xs (omega arith)))
    ∙ three_parts h (h + 1) xs (omega arith) in
    let turned : a ++ ((over ++ one) ++ behind) ≡ moved_behind h j xs =
    ap (λ ys. a ++ ys) (append_assoc over one behind) in
    subst (λ ys. IsPermutation ys (moved_behind h j xs)) parts
    (subst (IsPermutation (a ++ ((one ++ over) ++ behind))) turned
    (IsPermutation-append_right a ((one ++ over) ++ behind) ((over ++ one) ++ behind)
    (IsPermutation-append_left behind (one ++ over) (over ++ one) (IsPermutation-append_comm one over))))

all_still : (n : ℕ) → IsPermutation (range_with_len 0 n) (places 0 n)
all_still n = subst (IsPermutation (range_with_len 0 n)) (sym (places_all n)) (IsPermutation-refl (range_with_len 0 n))

to_permutes : (gs : Glyphs) (h : ℕ) (o : Option ℕ)
    → ((j : ℕ) → o ≡ Some j → PlaceWithin (h + 1) (length gs) j)
    → IsPermutation (range_with_len 0 (length gs)) (halant_to gs h o)
to_permutes gs h None within = all_still (length gs)
to_permutes gs h (Some j) within =
    let n = length gs in
    let k = within j refl in
    elim (passes (has_category OT_H) gs j) as (λ b. IsPermutation (range_with_len 0 n)
    (if b then places 0 n else moved_behind h j (places 0 n))) [
      | true ↦ all_still n
      | false ↦ subst (λ ps. IsPermutation (range_with_len 0 n) (moved_behind h j ps)) (sym (places_all n))
          (moved_behind_permutes h j (range_with_len 0 n) (omega (arith, k.low)))
    ]

from_permutes : (script : Option Script) (gs : Glyphs) (o : Option ℕ)
    → IsPermutation (range_with_len 0 (length gs)) (halant_from script gs o)
from_permutes script gs None = all_still (length gs)
from_permutes script gs (Some h) =
    to_permutes gs h (last_after_halant script gs h)
    (λ j found. greatest_within (passes (is_passed_by_halant script) gs) (h + 1) (length gs) j found)

pub halant_permutes : (r : Rules) (script : Option Script) (base : ℕ) (gs : Glyphs)
    → IsPermutation (range_with_len 0 (length gs)) (halant_places r script base gs)
halant_permutes r script base gs =
    elim r.old as (λ b. IsPermutation (range_with_len 0 (length gs))
    (if b then halant_from script gs (halant_after base gs) else places 0 (length gs))) [
      | true ↦ from_permutes script gs (halant_after base gs)
      | false ↦ all_still (length gs)
    ]

pub halant_fits : (r : Rules) (script : Option Script) (base : ℕ) (gs : Glyphs)
    → FitsStep (length gs) (halant_step r script base gs)
halant_fits r script base gs =
    fits_permuted (length gs) (halant_step r script base gs) (halant_permutes r script base gs) tt tt

-- Kannada's step
opens_long : (gs : Glyphs) → begins_with_ra_h_zwj gs ≡ true → 2 < length gs
opens_long [] h = absurd (true≢false (sym h))
opens_long (a ∷ []) h = absurd (true≢false (sym h))
opens_long (a ∷ (b ∷ [])) h = absurd (true≢false (sym h))
opens_long (a ∷ (b ∷ (c ∷ gs))) h = omega arith

pub joiner_long : (script : Option Script) (gs : Glyphs) → joiner_comes_first script gs ≡ true
    → 2 < length gs
joiner_long script gs h = opens_long gs (and_parts _ (begins_with_ra_h_zwj gs) h).1

pub joiner_fits : (script : Option Script) (gs : Glyphs) → FitsStep (length gs) (joiner_step script gs)
joiner_fits script gs = elim (cases_Bool (joiner_comes_first script gs)) [
  | inl on ↦ rw on
      (let all = swap_moves_merged (length gs) 1 (let long = joiner_long script gs on in omega arith) in all.fits)
  | inr off ↦ rw off (let all = still_moves_merged (length gs) in all.fits)
]

pub joiner_permutes : (script : Option Script) (gs : Glyphs)
    → Permutes (length gs) (joiner_step script gs)
joiner_permutes script gs = elim (cases_Bool (joiner_comes_first script gs)) [
  | inl on ↦ rw on (swap_permutes (length gs) 1 (let long = joiner_long script gs on in omega arith))
  | inr off ↦ rw off (still_permutes (length gs))
]

-- a cycle stays within the places, and so does what it merges
way_within : (from : List ℕ) (p n q : ℕ) → AllByRecursion (λ k. k < length from) from → q < length from
    → AllByRecursion (λ k. k < length from) (way_to from p n q)
way_within from p zero q all l = tt
way_within from p (suc n) q all l =
    elim (q == p) as (λ b. AllByRecursion (λ k. k < length from) (if b then
    [] else q ∷ way_to from p n (slice_index from q))) [
      | true ↦ tt
      | false ↦ (l, way_within from p n (slice_index from q) all (within_at (length from) from all q l))
    ]

pub cycle_within : (from : List ℕ) (p : ℕ) → AllByRecursion (λ k. k < length from) from → p < length from
    → AllByRecursion (λ k. k < length from) (cycle from p)
cycle_within from p all l =
    (l, way_within from p (length from) (slice_index from p) all (within_at (length from) from all p l))

greatest_below : (n m : ℕ) (xs : List ℕ) → m < n → AllByRecursion (λ k. k < n) xs → fold max m xs < n
greatest_below n m [] h all = h
greatest_below n m (x ∷ xs) h all = let first = all.0 in greatest_below n (max m x) xs (omega arith) all.1

all_filtered : (P : ℕ → Type 0) (test : ℕ → Bool) (xs : List ℕ) → AllByRecursion P xs
    → AllByRecursion P (filter test xs)
all_filtered P test [] all = tt
all_filtered P test (x ∷ xs) all =
    elim (test x) as (λ b. AllByRecursion P (cond b (x ∷ filter test xs) (filter test xs))) [
      | true ↦ (all.0, all_filtered P test xs all.1)
      | false ↦ all_filtered P test xs all.1
    ]

pub cycles_end : (from : List ℕ) (base : ℕ) → AllByRecursion (λ k. k < length from) from
    → EndWithin (length from) (cycle_stretches from base)
cycles_end from base all =
    let P : ℕ → Type 0 = λ p. p < length from in
    let Q : ℕ × ℕ → Type 0 = λ st. st.1 ≤ length from in
    let leads = leads_cycle from base in
    all-mapped P Q (cycle_stretch from base) (filter leads (places base (length from)))
    (λ p l. (let below = greatest_below (length from) p (cycle from p) l (cycle_within from p all l) in omega
    arith))
    (all_filtered P leads (places base (length from))
    (all-range P base (length from - base) (λ p low high. omega arith)))

pub stretches_end : (r : Rules) (from : List ℕ) (base n : ℕ) → IsPermutation (range_with_len 0 n) from
    → EndWithin n (ordered_stretches r from base)
stretches_end r from base n perm =
    let long : length from ≡ n = length_permuted n from perm in
    let within : AllByRecursion (λ k. k < length from) from =
    subst (λ m. AllByRecursion (λ k. k < m) from) (sym long) (within_permuted n from perm) in
    let ends : EndWithin (length from) (ordered_stretches r from base) =
    elim (r.old || nat_lt 127 (length from)) as (λ b. EndWithin (length from) (if b then (base, length from)
    ∷ [] else cycle_stretches from base)) [
      | true ↦ (omega arith, tt)
      | false ↦ cycles_end from base within
    ] in
    subst (λ m. EndWithin m (ordered_stretches r from base)) long ends

pub order_fits : (r : Rules) (gs : Glyphs) → FitsStep (length gs) (indic_order_step r gs)
order_fits r gs =
    fits_permuted (length gs) (indic_order_step r gs) (ordered_permutes gs) tt
    (stretches_end r (indic_ordered_places gs) (ordered_base (in_indic_order gs)) (length gs) (ordered_permutes gs))
