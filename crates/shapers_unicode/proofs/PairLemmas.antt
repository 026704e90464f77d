-- Mappings by their lengths.
use Rattle.std.proofs.Common.{◌≡◌, ◌≢◌, ℕ, List, [], ◌∷◌, length, slice_index, Some, None, refl, arith}
use Rattle.shapers_unicode.specs.Pairs.{as_pair, first_or_none}

pub as_pair_one : (xs : List ℕ) → length xs ≡ 1 → as_pair xs ≡ Some (slice_index xs 0, 0)
as_pair_one [] h = absurd (omega arith)
as_pair_one (x ∷ []) h = refl
as_pair_one (x ∷ y ∷ ys) h = absurd (omega arith)

pub as_pair_two : (xs : List ℕ) → length xs ≡ 2 → as_pair xs ≡ Some (slice_index xs 0, slice_index xs 1)
as_pair_two [] h = absurd (omega arith)
as_pair_two (x ∷ []) h = absurd (omega arith)
as_pair_two (x ∷ y ∷ []) h = refl
as_pair_two (x ∷ y ∷ z ∷ zs) h = absurd (omega arith)

pub as_pair_none : (xs : List ℕ) → length xs ≢ 1 → length xs ≢ 2 → as_pair xs ≡ None
as_pair_none [] h k = refl
as_pair_none (x ∷ []) h k = absurd (h refl)
as_pair_none (x ∷ y ∷ []) h k = absurd (k refl)
as_pair_none (x ∷ y ∷ z ∷ zs) h k = refl

pub first_or_none_some : (xs : List ℕ) → length xs ≢ 0 → first_or_none xs ≡ Some (slice_index xs 0)
first_or_none_some [] h = absurd (h refl)
first_or_none_some (x ∷ xs) h = refl

pub first_or_none_none : (xs : List ℕ) → length xs ≡ 0 → first_or_none xs ≡ None
first_or_none_none [] h = refl
first_or_none_none (x ∷ xs) h = absurd (omega arith)
