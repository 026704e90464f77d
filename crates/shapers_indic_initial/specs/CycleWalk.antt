-- Words of the code's walk along the cycles of an order.
use Rattle.std.specs.Prelude.{ℕ, ◌-◌, ◌<◌, ◌≡◌, List, length, map, fold, slice_index, slice_set}
use Rattle.shapers_buffer.specs.Places.{listed}

-- what the placement list says from s to e, numbered from s
abbrev pub places_from : ℕ → ℕ → List ℕ → List ℕ
places_from s e places = map (λ p. p - s) (listed s e places)

-- a list that has each of its places once
pub record EachOnce (from : List ℕ) : Type 0 where
  pub within : (i : ℕ) → i < length from → slice_index from i < length from
  pub once : (i j : ℕ) → i < length from → j < length from →
      slice_index from i ≡ slice_index from j → i ≡ j

-- the list in which each of these places stays: it is spent
abbrev pub with_spent : List ℕ → List ℕ → List ℕ
with_spent from ps = fold (λ places p. slice_set places p p) from ps
