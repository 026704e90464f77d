-- Sums of whole numbers.
use Rattle.std.proofs.Common.{◌≡◌, ℕ, zero, suc, ◌+◌, ℤ, pos, ◌+ℤ◌, ◌*ℤ◌, List, [], ◌∷◌, ◌++◌, fold, replicate, map, length, sym, ◌∙◌, ap, arith, ◌<◌, ◌≤◌, ◌≤ℤ◌, ◌-◌, ◌*◌, FitsSigned, Bool, true, false, cond, filter, take, get_or, add-one, neg_ℤ}
use Rattle.std.proofs.lemmas.Int.{ints}
use Rattle.std.proofs.lemmas.List.{append-nil, length-append, length_push, map-append, take_more}
use Rattle.std.proofs.lemmas.List.Elements.{filter-append}
use mir.Syntax.{w64, w128}
use lib.IntN.{suc_ℤ-*ℤ, zero-*ℤ}
use Rattle.shapers_stretch.specs.Measure.{total}

fold_from : (a : ℤ) (xs : List ℤ) → fold ◌+ℤ◌ a xs ≡ a +ℤ total xs
fold_from a [] = omega (arith, ints)
fold_from a (x ∷ xs) = omega (arith, ints, fold_from (a +ℤ x) xs, fold_from (pos 0 +ℤ x) xs)

pub total_cons : (x : ℤ) (xs : List ℤ) → total (x ∷ xs) ≡ x +ℤ total xs
total_cons = search (arith, fold_from)

pub total-append : (xs ys : List ℤ) → total (xs ++ ys) ≡ total xs +ℤ total ys
total-append [] ys = omega (arith, ints)
total-append (x ∷ xs) ys = omega (arith, ints, total_cons x (xs ++ ys), total_cons x xs, total-append xs ys)

pub times_suc : (n : ℕ) (a : ℤ) → pos (suc n) *ℤ a ≡ pos n *ℤ a +ℤ a
times_suc n a = suc_ℤ-*ℤ (pos n) a

pub times_zero : (a : ℤ) → pos 0 *ℤ a ≡ pos 0
times_zero a = zero-*ℤ a

pub times_sum : (n : ℕ) (a b : ℤ) → pos n *ℤ (a +ℤ b) ≡ pos n *ℤ a +ℤ pos n *ℤ b
times_sum zero a b = search arith
times_sum (suc n) a b = search (arith, ints, times_sum n a b)

pub times_add : (m n : ℕ) (a : ℤ) → pos (m + n) *ℤ a ≡ pos m *ℤ a +ℤ pos n *ℤ a
times_add zero n a = omega (arith, ints)
times_add (suc m) n a = search (arith, ints)

pub times_neg : (n : ℕ) (a : ℤ) → pos n *ℤ neg_ℤ a ≡ neg_ℤ (pos n *ℤ a)
times_neg _ a = search arith

pub total-replicate : (n : ℕ) (a : ℤ) → total (replicate n a) ≡ pos n *ℤ a
total-replicate zero a = sym (times_zero a)
total-replicate (suc n) a = search (arith, total_cons, total-replicate n a)

-- one more at the end
pub total-push : (xs : List ℤ) (x : ℤ) → total (xs ++ x ∷ []) ≡ total xs +ℤ x
total-push = search (arith, total-append)

sum_if : {X : Type 0} (f : X → ℤ) (b : Bool) (xs : List X) (x : X) → total (map f (xs ++ cond b (x ∷ []) []))
    ≡ cond b (total (map f xs) +ℤ f x) (total (map f xs))
sum_if f true xs x = search (map-append, total-push)
sum_if f false xs x = cc (append-nil xs)

count_if : {X : Type 0} (b : Bool) (xs : List X) (x : X) → length (xs ++ cond b (x ∷ []) [])
    ≡ cond b (suc (length xs)) (length xs)
count_if true xs x = length_push xs x ∙ add-one (length xs)
count_if false xs x = ap length (append-nil xs)

count_push : {X : Type 0} (test : X → Bool) (xs : List X) (x : X) → length (filter test (xs ++ x ∷ []))
    ≡ cond (test x) (suc (length (filter test xs))) (length (filter test xs))
count_push = search (filter-append, count_if)

-- what the next place adds to the sum of what passes a test, and to its count
pub sum_next : {X : Type 0} (f : X → ℤ) (test : X → Bool) (xs : List X) (i : ℕ) (d : X) → i < length xs
    → total (map f (filter test (take (i + 1) xs)))
    ≡ cond (test (get_or xs i d)) (total (map f (filter test (take i xs))) +ℤ f (get_or xs i d))
    (total (map f (filter test (take i xs))))
sum_next f test xs i d p = search (take_more xs i d p, filter-append, sum_if)

pub count_next : {X : Type 0} (test : X → Bool) (xs : List X) (i : ℕ) (d : X) → i < length xs
    → length (filter test (take (i + 1) xs)) ≡ cond (test (get_or xs i d)) (suc (length (filter test (take i xs))))
    (length (filter test (take i xs)))
count_next test xs i d p = cc (take_more xs i d p, count_push test (take i xs) (get_or xs i d))

pub total_next : {X : Type 0} (f : X → ℤ) (xs : List X) (i : ℕ) (d : X) → i < length xs
    → total (map f (take (i + 1) xs)) ≡ total (map f (take i xs)) +ℤ f (get_or xs i d)
total_next f xs i d p = cc (
  take_more xs i d p,
  map-append f (take i xs) (get_or xs i d ∷ []),
  total-push (map f (take i xs)) (f (get_or xs i d)),
)

-- a sum piece by piece: the next piece, with the sum of the rest
next_piece : {X : Type 0} (T : List X → ℤ) → ((xs ys : List X) → T (xs ++ ys) ≡ T xs +ℤ T ys)
    → (all : ℤ) (old piece rest : List X) (sum more : ℤ) → old ≡ piece ++ rest → sum +ℤ T old ≡ all → more ≡ T piece
    → (sum +ℤ more) +ℤ T rest ≡ all
next_piece T additive all old piece rest sum more e h m =
    let parts : T old ≡ T piece +ℤ T rest = search arith in omega (arith, ints)

pub piece_summed : {X : Type 0} (f : X → ℤ) (all : ℤ) (old piece rest : List X) (sum more : ℤ) → old ≡ piece ++ rest
    → sum +ℤ total (map f old) ≡ all → more ≡ total (map f piece) → (sum +ℤ more) +ℤ total (map f rest) ≡ all
piece_summed f all old piece rest sum more e h m =
    next_piece (λ xs. total (map f xs)) (search (map-append, total-append)) all old piece rest sum more e h m

pub kept_piece_summed : {X : Type 0} (f : X → ℤ) (test : X → Bool) (all : ℤ) (old piece rest : List X) (sum more : ℤ)
    → old ≡ piece ++ rest → sum +ℤ total (map f (filter test old)) ≡ all → more ≡ total (map f (filter test piece))
    → (sum +ℤ more) +ℤ total (map f (filter test rest)) ≡ all
kept_piece_summed f test all old piece rest sum more e h m =
    next_piece (λ xs. total (map f (filter test xs))) (
    search (filter-append, map-append, total-append)) all old piece rest sum more e h m

pub kept_piece_counted : {X : Type 0} (test : X → Bool) (all : ℕ) (old piece rest : List X) (count more : ℕ)
    → old ≡ piece ++ rest → count + length (filter test old) ≡ all → more ≡ length (filter test piece)
    → (count + more) + length (filter test rest) ≡ all
kept_piece_counted = search (arith, filter-append, length-append)

kept_if : {X : Type 0} (b : Bool) (x : X) (xs : List X) (n : ℕ) → length xs ≤ n → length (cond b (x ∷ xs) xs) ≤ suc n
kept_if true = omega arith
kept_if false = omega arith

pub length_kept : {X : Type 0} (test : X → Bool) (xs : List X) → length (filter test xs) ≤ length xs
length_kept test [] = omega arith
length_kept test (x ∷ xs) = search (arith, length_kept test xs)

-- where nothing is left, the sum is that of all
pub kept_summed : {X : Type 0} (f : X → ℤ) (test : X → Bool) (all : ℤ) (rest : List X) (sum : ℤ) → length rest ≡ 0
    → sum +ℤ total (map f (filter test rest)) ≡ all → sum ≡ all
kept_summed f test all [] sum e h = omega (arith, ints)
kept_summed f test all (x ∷ xs) sum e h = absurd (omega arith)

pub kept_counted : {X : Type 0} (test : X → Bool) (all : ℕ) (rest : List X) (count : ℕ) → length rest ≡ 0
    → count + length (filter test rest) ≡ all → count ≡ all
kept_counted test all [] count e h = omega arith
kept_counted test all (x ∷ xs) count e h = absurd (omega arith)

-- the sum of so many numbers of 64 bits fits 128
pub record PieceBounds (all rest : ℕ) (sum : ℤ) : Type 0 where
  pub fits : FitsSigned w128 sum
  pub low : neg_ℤ (pos (9223372036854775808 * (all - rest))) ≤ℤ sum
  pub high : sum ≤ℤ pos (9223372036854775808 * (all - rest))

fits_near : (x : ℤ) → (neg_ℤ (pos (9223372036854775808 * 18446744073709551615)) ≤ℤ x)
    → (x ≤ℤ pos (9223372036854775808 * 18446744073709551615)) → FitsSigned w128 x
fits_near _ = search arith

pub piece_bounds : (all old rest : ℕ) (sum more : ℤ) → all ≤ 18446744073709551615 → rest < old → old ≤ all
    → FitsSigned w64 more → neg_ℤ (pos (9223372036854775808 * (all - old))) ≤ℤ sum
    → sum ≤ℤ pos (9223372036854775808 * (all - old)) → PieceBounds all rest (sum +ℤ more)
piece_bounds = search (arith, ints)
