-- A search for the first that fits passes over several that don't.
use Rattle.std.proofs.Common.{ℕ, zero, suc, ◌+◌, ◌-◌, ◌<◌, ◌≤◌, ◌≡◌, Bool, Option, None, List, subst, arith}
use Rattle.opentype_face.proofs.Foremost.{IsFirst, first_passed}
use Rattle.opentype_layout.specs.Starts.{NoneStarts, starting}

pub over : {X : Type 0} (f : ℕ → Option X) (count n i : ℕ) → IsFirst f count i → i + n ≤ count →
    ((k : ℕ) → i ≤ k → k < i + n → f k ≡ None) → IsFirst f count (i + n)
over f count zero i s le h = let e : i + 0 ≡ i = omega arith in rw e s
over f count (suc n) i s le h =
    let e : i + 1 + n ≡ i + suc n = omega arith in
    subst (IsFirst f count) e (over f count n (i + 1)
    (first_passed f count i s (omega arith) (h i (omega arith) (omega arith))) (omega arith)
    (λ k a b. h k (omega arith) (omega arith)))

pub first_over : {X : Type 0} (f : ℕ → Option X) (count i j : ℕ) → IsFirst f count i → i ≤ j → j ≤ count →
    ((k : ℕ) → i ≤ k → k < j → f k ≡ None) → IsFirst f count j
first_over f count i j s le within h =
    let e : i + (j - i) ≡ j = omega arith in
    subst (IsFirst f count) e (over f count (j - i) i s (omega arith) (λ k a b. h k a (omega arith)))

-- those that begin at no glyph, where each of them comes to nothing then
pub first_started : {X : Type 0} (f : ℕ → Option X) (of_gpos : Bool) (lookup : List ℕ) (glyph count i j : ℕ) →
    ((k : ℕ) → starting of_gpos lookup glyph k ≡ None → f k ≡ None) → IsFirst f count i → i ≤ j → j ≤ count →
    NoneStarts of_gpos lookup glyph i j → IsFirst f count j
first_started f of_gpos lookup glyph count i j none s le within h =
    first_over f count i j s le within (λ k a b. none k (h.none k a b))
