-- What a search by halves finds where the ranges are in order.
use Rattle.std.specs.Prelude.{ℕ, ◌<◌, ◌≤◌, Option, None, Some}
use Rattle.opentype_face.specs.Ranges.{bisect}

-- each range ends before the next begins
pub record AreRangesInOrder (count : ℕ) (first last : ℕ → ℕ) : Type 0 where
  pub ranges : (i : ℕ) → i < count → first i ≤ last i
  pub apart : (i j : ℕ) → i < j → j < count → last i < first j

-- range i holds a number
abbrev pub Holds : (ℕ → ℕ) → (ℕ → ℕ) → ℕ → ℕ → Type 0
Holds first last number i = (first i ≤ number) × (number ≤ last i)

-- it is the first of so many that does; or none does
abbrev pub IsFirstHolding : ℕ → (ℕ → ℕ) → (ℕ → ℕ) → ℕ → Option ℕ → Type 0
IsFirstHolding count first last number None = (i : ℕ) → i < count → Holds first last number i → ⊥
IsFirstHolding count first last number (Some i) =
    (i < count) × Holds first last number i × ((j : ℕ) → j < i → Holds first last number j → ⊥)

-- the search finds it
abbrev pub SearchLaw : Type 0
SearchLaw = (count : ℕ) (first last : ℕ → ℕ) (number : ℕ) → AreRangesInOrder count first last →
    IsFirstHolding count first last number (bisect count first last number 0 count)
