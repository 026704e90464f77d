-- Steps that take each place once lose no glyph.
use Rattle.std.proofs.Common.{ℕ, ◌+◌, ◌-◌, ◌<◌, ◌≤◌, ◌≡◌, inl, inr, List, [], ◌∷◌, ◌++◌, map, length, get_or, refl, sym, subst, arith}
use Rattle.std.specs.List.{AllByRecursion, range_with_len}
use Rattle.std.specs.List.Sorted.{IsPermutation}
use Rattle.std.proofs.lemmas.List.{length-map}
use Rattle.std.proofs.lemmas.List.FromFn.{length-range_with_len}
use Rattle.std.proofs.lemmas.List.Sorted.{IsPermutation-refl, IsPermutation-trans, IsPermutation-map, IsPermutation-append_left, IsPermutation-append_right, IsPermutation-swap, IsPermutation-append_comm, All-permutation, length_permutation}
use Rattle.shapers_buffer.specs.Glyphs.{Glyphs}
use Rattle.shapers_buffer.specs.declared.buffer.level.BufferClusterLevel.{BufferClusterLevel}
use Rattle.shapers_buffer.specs.Glyph.{plain, order_view}
use Rattle.shapers_buffer.specs.Places.{pick}
use Rattle.shapers_clusters.specs.Steps.{Step, after_steps, moved_on, old_places, FitSteps, widened, still_step, swap_step, Permutes, FitsStep}
use Rattle.shapers_clusters.proofs.Picks.{pick-within, nothing_picked, some_element, length-pick, pick-all, within_range}
use Rattle.shapers_clusters.proofs.Moves.{order_view-after_steps, within-old_places}
use Rattle.shapers_clusters.proofs.Widened.{range-three}
use Rattle.std.proofs.lemmas.List.Elements.{All-from_recursion, recursion_from_All}
use Rattle.shapers_buffer.specs.Lists.{first_last}
use Rattle.shapers_clusters.specs.Cuts.{EndWithin}

pick-read : {X : Type 0} (d : X) (ps : List ℕ) (xs : List X) → AllByRecursion (λ p. p < length xs) ps
    → pick ps xs ≡ map (λ p. get_or xs p d) ps
pick-read d [] xs h = refl
pick-read d (p ∷ ps) xs h = cc (pick-within d p ps xs h.0, pick-read d ps xs h.1)

-- what is picked at the same places in another order
pub pick-permuted : {X : Type 0} (ps qs : List ℕ) (xs : List X) → AllByRecursion (λ p. p < length xs) ps
    → AllByRecursion (λ p. p < length xs) qs → IsPermutation ps qs → IsPermutation (pick ps xs) (pick qs xs)
pick-permuted ps qs xs v w h = elim (some_element xs) [
  | inl e ↦ search (nothing_picked, IsPermutation-refl)
  | inr d ↦ search (pick-read d qs xs w, pick-read d ps xs v, IsPermutation-map (λ p. get_or xs p d) ps qs h)
]

-- a list picked at each of its places once, in some order
pub picked-permuted : {X : Type 0} (n : ℕ) (ps : List ℕ) (xs : List X) → length xs ≡ n
    → AllByRecursion (λ p. p < length xs) ps → IsPermutation (range_with_len 0 n) ps → IsPermutation xs (pick ps xs)
picked-permuted n ps xs long within order = search (
  arith,
  pick-all n xs long,
  pick-permuted (range_with_len 0 n) ps xs (within_range 0 n (length xs) (omega arith)) within order,
)

-- the places after the steps
pub moved-permuted : (n : ℕ) (steps : List Step) (olds : List ℕ) → length olds ≡ n → FitSteps n steps
    → AllByRecursion (Permutes n) steps → IsPermutation olds (moved_on steps olds)
moved-permuted n [] olds e f h = IsPermutation-refl olds
moved-permuted n (step ∷ steps) olds e f h =
    let v = subst (λ k. AllByRecursion (λ p. p < k) step.places) (sym e) f.0.within in
    let next = pick step.places olds in
    IsPermutation-trans olds next (moved_on steps next) (picked-permuted n step.places olds e v h.0)
    (moved-permuted n steps next (search length-pick) f.1 h.1)

-- the order view after the steps
pub order_view-permuted : (level : BufferClusterLevel) (steps : List Step) (gs : Glyphs)
    → FitSteps (length gs) steps → AllByRecursion (Permutes (length gs)) steps
    → IsPermutation (order_view gs) (order_view (after_steps level steps gs))
order_view-permuted level steps gs =
    let n = length gs in
    let long : length (order_view gs) ≡ n = length-map gs plain in
    let old = subst (λ k. AllByRecursion (λ p. p < k) (old_places n steps)) (sym long) (within-old_places n steps) in
    search (order_view-after_steps, picked-permuted, moved-permuted, length-range_with_len)

-- widened steps, and the smallest
pub permutes-widened : (s e n : ℕ) (step : Step) → s ≤ e → e ≤ n → Permutes (e - s) step
    → Permutes n (widened s e n step)
permutes-widened s e n step h l f =
    let rest = range_with_len e (n - e) in
    let middle = map (λ p. s + p) (range_with_len 0 (e - s)) in
    let moved = map (λ p. s + p) step.places in
    search (
      range-three s e n h l,
      IsPermutation-append_right (range_with_len 0 s) (middle ++ rest) (moved ++ rest)
          (IsPermutation-append_left rest middle moved (IsPermutation-map (λ p. s + p) (range_with_len 0 (e - s))
          step.places f)),
    )

pub still_permutes : (n : ℕ) → Permutes n (still_step n)
still_permutes n = IsPermutation-refl (range_with_len 0 n)

pub swap_permutes : (n i : ℕ) → i + 1 < n → Permutes n (swap_step n i)
swap_permutes n = let k = length-range_with_len 0 n in search (arith, IsPermutation-swap)

-- places that are taken once are those below their number, and as many; so such a step fits
pub within_permuted : (n : ℕ) (places : List ℕ) → IsPermutation (range_with_len 0 n) places
    → AllByRecursion (λ p. p < n) places
within_permuted n places perm =
    let P : ℕ → Type 0 = λ p. p < n in
    recursion_from_All P places (All-permutation P (range_with_len 0 n) places perm
    (search (arith, All-from_recursion, within_range)))

pub length_permuted : (n : ℕ) (places : List ℕ) → IsPermutation (range_with_len 0 n) places → length places ≡ n
length_permuted = search (arith, length_permutation, length-range_with_len)

pub fits_permuted : (n : ℕ) (step : Step) → Permutes n step → EndWithin n step.merged_first
    → EndWithin n step.merged_then → FitsStep n step
fits_permuted n step perm first last = search (length_permuted, within_permuted)

-- the first as the last loses nothing
pub permuted-first_last : {X : Type 0} (xs : List X) → IsPermutation xs (first_last xs)
permuted-first_last [] = IsPermutation-refl []
permuted-first_last (x ∷ xs) = IsPermutation-append_comm (x ∷ []) xs
