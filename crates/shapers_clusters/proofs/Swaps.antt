-- The smallest steps: nothing moves, or two neighbours merge and change places.
use Rattle.std.proofs.Common.{ℕ, ◌+◌, ◌<◌, ◌≡◌, ◌≢◌, ◌==◌, inl, inr, List, length, get_or, set, refl, sym, ◌∙◌, ap, subst, arith, get_or-set_same, get_or-set_other, length-set, if◌then◌else◌}
use Rattle.std.specs.Prelude.{swap}
use Rattle.std.specs.List.{AllByRecursion, range_with_len}
use Rattle.std.proofs.lemmas.List.{same_lists, map-set, get_or-map}
use Rattle.std.proofs.lemmas.List.Edits.{swap_is, length-swap}
use Rattle.std.proofs.lemmas.List.Elements.{recursion_from_All}
use Rattle.std.proofs.lemmas.List.FromFn.{get_or-range_with_len, length-range_with_len}
use Rattle.std.proofs.lemmas.Bool.{cases_eq}
use Rattle.shapers_buffer.specs.Glyphs.{Glyphs}
use Rattle.shapers_buffer.specs.declared.buffer.level.BufferClusterLevel.{BufferClusterLevel}
use Rattle.shapers_buffer.specs.Clusters.{merge}
use Rattle.shapers_buffer.specs.Glyph.{order_view}
use Rattle.shapers_clusters.proofs.Merging.{length-merge, order_view-merge}
use Rattle.shapers_clusters.proofs.Picks.{length-pick, get_or-pick, pick-all, within_range}
use Rattle.shapers_buffer.specs.Places.{pick}
use Rattle.shapers_clusters.specs.Steps.{after_step, MovesMerged, still_step, swap_step}

-- where what stands at place k comes from
abbrev turned : ℕ → ℕ → ℕ
turned i k = if k == i then i + 1 else if k == (i + 1) then i else k

turned-first : (i k : ℕ) → k ≡ i → turned i k ≡ i + 1
turned-first = grind arith

turned-second : (i k : ℕ) → k ≡ i + 1 → turned i k ≡ i
turned-second = grind arith

turned-other : (i k : ℕ) → k ≢ i → k ≢ i + 1 → turned i k ≡ k
turned-other = grind arith

turned_within : (n i k : ℕ) → i + 1 < n → k < n → turned i k < n
turned_within = grind arith

swap_at : {X : Type 0} (xs : List X) (i k : ℕ) (d : X) → i + 1 < length xs → get_or (swap xs i (i + 1)) k d
    ≡ get_or xs (turned i k) d
swap_at xs i k d h =
    let a = get_or xs (i + 1) d in
    let b = get_or xs i d in
    let first : i < length xs = omega arith in
    ap (λ ys. get_or ys k d) (sym (swap_is xs i (i + 1) d first h))
    ∙ elim (cases_eq k (i + 1)) [
      | inl e ↦ ap (λ m. get_or (set (set xs i a) (i + 1) b) m d) e ∙ get_or-set_same (set xs i a) (i + 1) b d (omega
          (arith, length-set xs i a)) ∙ sym (ap (λ m. get_or xs m d) (turned-second i k e))
      | inr n ↦ get_or-set_other (set
          xs i a) (i + 1) k b d n ∙ elim (cases_eq k i) [
            | inl e ↦ ap (λ m. get_or (set xs i a) m d) e ∙ get_or-set_same
                xs i a d first ∙ sym (ap (λ m. get_or xs m d) (turned-first i k e))
            | inr m ↦ get_or-set_other xs i k a d m ∙ sym (ap (λ m. get_or xs m d) (turned-other i k m n))
          ]
    ]

swapped_length : (n i : ℕ) → length (swap (range_with_len 0 n) i (i + 1)) ≡ n
swapped_length = search (length-swap, length-range_with_len)

swapped_at : (n i k d : ℕ) → i + 1 < n → k < n → get_or (swap (range_with_len 0 n) i (i + 1)) k d ≡ turned i k
swapped_at = search (arith, swap_at, length-range_with_len, get_or-range_with_len)

swapped_within : (n i : ℕ) → i + 1 < n → AllByRecursion (λ p. p < n) (swap (range_with_len 0 n) i (i + 1))
swapped_within = search (arith, recursion_from_All, swapped_at, swapped_length)

pick-swap : {X : Type 0} (n : ℕ) (xs : List X) (i : ℕ) → length xs ≡ n → i + 1 < n
    → pick (swap (range_with_len 0 n) i (i + 1)) xs ≡ swap xs i (i + 1)
pick-swap n xs i e h =
    let places = swap (range_with_len 0 n) i (i + 1) in
    let within = subst (λ m. AllByRecursion (λ p. p < m) places) (sym e) (swapped_within n i h) in
    let long = length-pick places xs within ∙ swapped_length n i in
    let room : i + 1 < length xs = omega arith in
    same_lists (pick places xs) (swap xs i (i + 1)) (search (arith, length-swap)) (λ k d l.
    let m : k < n = omega arith in
    search (get_or-pick, swapped_length, swapped_at, swap_at))

-- a swap step merges the two and swaps them
pub run-swap_step : (level : BufferClusterLevel) (gs : Glyphs) (i : ℕ) → i + 1 < length gs
    → after_step level (swap_step (length gs) i) gs ≡ swap (merge level i (i + 2) gs) i (i + 1)
run-swap_step level gs i h = pick-swap (length gs) (merge level i (i + 2) gs) i (search (arith, length-merge)) h

-- a still step leaves the glyphs as they are
pub run-still_step : (level : BufferClusterLevel) (gs : Glyphs) → after_step level (still_step (length gs)) gs ≡ gs
run-still_step level gs = pick-all (length gs) gs refl

-- in the order view they change places
order_view-swap : (ms : Glyphs) (i : ℕ) → i + 1 < length ms → order_view (swap ms i (i + 1))
    ≡ swap (order_view ms) i (i + 1)
order_view-swap = search (arith, map-set, get_or-map)

pub order_view-swap_step : (level : BufferClusterLevel) (gs : Glyphs) (i : ℕ) → i + 1 < length gs
    → order_view (after_step level (swap_step (length gs) i) gs) ≡ swap (order_view gs) i (i + 1)
order_view-swap_step level gs i within = cc (
  run-swap_step level gs i within,
  order_view-swap (merge level i (i + 2) gs) i (search (arith, length-merge)),
  order_view-merge level i (i + 2) gs,
)

-- both move only inside what they merged
pub swap_moves_merged : (n i : ℕ) → i + 1 < n → MovesMerged n (swap_step n i)
swap_moves_merged = search (arith, swapped_length, swapped_within, swapped_at)

pub still_moves_merged : (n : ℕ) → MovesMerged n (still_step n)
still_moves_merged = search (arith, length-range_with_len, within_range, get_or-range_with_len)
