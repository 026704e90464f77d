-- The step of the marks moves only inside what it merges, and takes each place once.
use Rattle.std.proofs.Common.{◌≡◌, ℕ, zero, suc, ◌+◌, ◌<◌, true, List, [], ◌∷◌, ◌++◌, length, get_or, refl, subst, arith, append_assoc, length-append}
use Rattle.std.specs.List.{AllByRecursion, range_with_len}
use Rattle.std.specs.List.Sorted.{IsPermutation}
use Rattle.std.proofs.lemmas.List.FromFn.{length-range_with_len}
use Rattle.std.proofs.lemmas.List.Sorted.{IsPermutation-append_comm, IsPermutation-append_left, IsPermutation-append_right, IsPermutation-trans}
use Rattle.std.proofs.lemmas.Bool.Decides.{nat_tests}
use Rattle.shapers_buffer.proofs.MappedLists.{all-append, all-range}
use Rattle.shapers_clusters.specs.Cuts.{held}
use Rattle.shapers_clusters.specs.Steps.{Step, HeldBetween, MovesMerged, Permutes}
use Rattle.shapers_clusters.proofs.Widened.{range-append}
use Rattle.shapers_arabic.specs.Marks.{passed, places_moved}

-- each place from k on, related to what is listed there
abbrev AllAt : (ℕ → ℕ → Type 0) → ℕ → List ℕ → Type 0
AllAt R k [] = Unit {0}
AllAt R k (x ∷ xs) = R k x × AllAt R (k + 1) xs

all_at-append : (R : ℕ → ℕ → Type 0) (k m : ℕ) (xs ys : List ℕ) → k + length xs ≡ m → AllAt R k xs → AllAt R m ys
    → AllAt R k (xs ++ ys)
all_at-append R k m [] ys e h i = search arith
all_at-append R k m (x ∷ xs) ys e h i = (h.0, all_at-append R (k + 1) m xs ys (omega arith) h.1 i)

all_at-range : (R : ℕ → ℕ → Type 0) (k a n : ℕ) → ((i : ℕ) → i < n → R (k + i) (a + i)) → AllAt R k (range_with_len a n)
all_at-range R k a zero h = tt
all_at-range R k a (suc n) h = search (
  arith,
  h 0 (omega arith),
  all_at-range R (k + 1) (a + 1) n
      (λ i l. subst (λ j. R j (a + 1 + i)) (omega arith) (subst (λ b. R (k + suc i) b) (omega arith) (h (suc i)
      (omega arith)))),
)

all_at : (R : ℕ → ℕ → Type 0) (k : ℕ) (xs : List ℕ) → AllAt R k xs → (i : ℕ) → i < length xs → R (k + i) (get_or xs i 0)
all_at R k [] h i l = absurd (omega arith)
all_at R k (x ∷ xs) h zero l = subst (λ j. R j x) (omega arith) h.0
all_at R k (x ∷ xs) h (suc i) l = subst (λ j. R j (get_or xs i 0))
    (omega arith) (all_at R (k + 1) xs h.1 i (omega arith))

-- what the two merges hold together
held_one : (p q r : ℕ) (sts : List (ℕ × ℕ)) → p < r → r < q → held ((p, q) ∷ sts) r ≡ true
held_one = grind (arith, nat_tests)

held_second : (a m b n r : ℕ) → 0 < n → m < r → r < a + m + b + n → held (passed a m b n) r ≡ true
held_second a m b zero r some low high = absurd (omega arith)
held_second a zero b (suc n) r some low high = search (arith, held_one)
held_second a (suc m) b (suc n) r some low high = search (arith, nat_tests, held_one)

-- a mark of the front, over which modifiers of one kind pass, or of both
held_low : (a m b n r : ℕ) → 0 < r → 0 < a → r < a + m + b + n → 0 < m + n → (n ≡ 0 → r < a + m)
    → held (passed a m b n) r ≡ true
held_low a zero = search (arith, held_second)
held_low a (suc m) = search arith

length-moved : (a m b n c : ℕ) → length (places_moved a m b n c) ≡ a + m + b + n + c
length-moved = search (arith, length-append, length-range_with_len)

within-moved : (a m b n c : ℕ) → AllByRecursion (λ p. p < a + m + b + n + c) (places_moved a m b n c)
within-moved a m b n c =
    let P : ℕ → Type 0 = λ p. p < a + m + b + n + c in
    let r1 = range_with_len (a + m + b) n in
    let r2 = range_with_len 0 a in
    let r3 = range_with_len (a + m) b in
    let r4 = range_with_len (a + m + b + n) c in
    all-append P (range_with_len a m) (r1 ++ (r2 ++ (r3 ++ r4))) (all-range P a m (λ p low high. omega arith))
    (all-append P r1 (r2 ++ (r3 ++ r4)) (all-range P (a + m + b) n (λ p low high. omega arith))
    (all-append P r2 (r3 ++ r4) (all-range P 0 a (λ p low high. omega arith))
    (all-append P r3 r4 (all-range P (a + m) b (λ p low high. omega arith))
    (all-range P (a + m + b + n) c (λ p low high. omega arith)))))

abbrev pub step_of : ℕ → ℕ → ℕ → ℕ → ℕ → Step
step_of a m b n c = record { merged_first = passed a m b n; places = places_moved a m b n c; merged_then = [] }

pub moves-merged : (a m b n c : ℕ) → MovesMerged (a + m + b + n + c) (step_of a m b n c)
moves-merged a m b n c = record {
  fits = search (arith, length-moved, within-moved);
  inside = λ p l. subst (λ q. HeldBetween (passed a m b n) q (get_or (places_moved a m b n c) p 0)) (omega arith)
      (all_at (HeldBetween (passed a m b n)) 0 (places_moved a m b n c) (
      search (arith, all_at-append, length-range_with_len, all_at-range, held_second, held_low)) p l);
  nothing_then = refl;
}

-- five parts in another order
permuted-parts : (a m b n c : List ℕ) → IsPermutation (a ++ (m ++ (b ++ (n ++ c)))) (m ++ (n ++ (a ++ (b ++ c))))
permuted-parts a m b n c =
    let rest = b ++ (n ++ c) in
    let one : IsPermutation (a ++ (m ++ rest)) (m ++ (a ++ rest)) =
    subst (λ xs. IsPermutation xs (m ++ (a ++ rest))) (append_assoc a m rest)
    (subst (λ ys. IsPermutation ((a ++ m) ++ rest) ys) (append_assoc m a rest)
    (IsPermutation-append_left rest (a ++ m) (m ++ a) (IsPermutation-append_comm a m))) in
    let two : IsPermutation (a ++ rest) (n ++ (a ++ (b ++ c))) =
    subst (λ xs. IsPermutation xs (n ++ (a ++ (b ++ c)))) (search (arith, append_assoc))
    (subst (λ ys. IsPermutation (((a ++ b) ++ n) ++ c) ys) (search (arith, append_assoc))
    (IsPermutation-append_left c ((a ++ b) ++ n) (n ++ (a ++ b)) (IsPermutation-append_comm (a ++ b) n))) in
    search (arith, IsPermutation-trans, IsPermutation-append_right)

-- all places, in five parts
range-five : (a m b n c : ℕ) → range_with_len 0 (a + m + b + n + c) ≡ range_with_len 0 a ++ (range_with_len a m
    ++ (range_with_len (a + m) b ++ (range_with_len (a + m + b) n ++ range_with_len (a + m + b + n) c)))
range-five a m b n c =
    let r0 = range_with_len 0 a in
    let r1 = range_with_len a m in
    let r2 = range_with_len (a + m) b in
    let r3 = range_with_len (a + m + b) n in
    let r4 = range_with_len (a + m + b + n) c in
    search (arith, range-append, range-append 0 a m, append_assoc)

pub moves-permute : (a m b n c : ℕ) → Permutes (a + m + b + n + c) (step_of a m b n c)
moves-permute = search (arith, range-five, permuted-parts)
