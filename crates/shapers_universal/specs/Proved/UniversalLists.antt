-- Laws of lists with what passes a test in front, reversed, and with their first behind others.
use Rattle.std.proofs.Common.{◌≡◌, ℕ, zero, suc, ◌+◌, ◌-◌, ◌≤◌, Bool, true, false, not, if◌then◌else◌, List, [], ◌∷◌, ◌++◌, map, filter, reverse, length, take, drop, Option, None, Some, refl, ap, sym, ◌∙◌, subst, arith, append_assoc, length-append, zero-add}
use Rattle.std.specs.List.{AllByRecursion, flat_map, list_any, onto_first, range_with_len, slice_get}
use Rattle.std.specs.List.Sorted.{IsPermutation}
use Rattle.std.proofs.lemmas.List.{append-nil, reverse-append, take-append-drop, map-append, take_at, take_rest, take-map, drop-map}
use Rattle.std.proofs.lemmas.List.FromFn.{length-range_with_len}
use Rattle.shapers_buffer.proofs.MappedLists.{drop-range, map-reverse}
use Rattle.std.proofs.lemmas.List.Elements.{filter-append}
use Rattle.std.proofs.lemmas.List.Sorted.{IsPermutation-trans, IsPermutation-append_left, IsPermutation-filter_both, IsPermutation-reverse}
use Rattle.shapers_buffer.specs.Lists.{cut_after, first_last}
use Rattle.shapers_buffer.specs.Places.{pick}
use Rattle.shapers_clusters.proofs.Picks.{pick-append, pick-all, pick-range}
use Rattle.shapers_clusters.proofs.Widened.{range-append}
use Rattle.shapers_syllabic.proofs.NonePass.{filter-none, filter_not-none}
use Rattle.shapers_universal.specs.Universal.{first_behind, reversed_first}
use Rattle.shapers_clusters.proofs.Permuted.{permuted-first_last}

-- what is picked at the places that pass
picked_one : {X : Type 0} (t : ℕ → Bool) (test : X → Bool) (xs : List X) (p : ℕ) (ps : List ℕ) (o : Option X)
    → slice_get xs p ≡ o → ((x : X) → o ≡ Some x → t p ≡ test x) → pick (filter t ps) xs ≡ filter test (pick ps xs)
    → pick (filter t (p ∷ ps)) xs ≡ filter test (pick (p ∷ ps) xs)
picked_one t test xs p ps None h tells rest =
    elim (t p) as (λ b. pick (if b then p ∷ filter t ps else filter t ps) xs ≡ filter test (pick (p ∷ ps) xs)) [
      | true ↦ rw h rest
      | false ↦ rw h rest
    ]
picked_one t test xs p ps (Some x) h tells rest =
    let told : t p ≡ test x = tells x refl in
    ap (λ b. pick (if b then p ∷ filter t ps else filter t ps) xs) told
    ∙ (elim (test x) as (λ b. pick (if b then p ∷ filter t ps else filter t ps) xs
    ≡ (if b then x ∷ filter test (pick ps xs) else filter test (pick ps xs))) [
      | true ↦ rw h (ap (λ ys. x ∷ ys) rest)
      | false ↦ rest
    ])
    ∙ sym (rw h refl)

pub pick-filter : {X : Type 0} (t : ℕ → Bool) (test : X → Bool) (xs : List X)
    → ((p : ℕ) (x : X) → slice_get xs p ≡ Some x → t p ≡ test x) → (ps : List ℕ)
    → pick (filter t ps) xs ≡ filter test (pick ps xs)
pick-filter t test xs tells [] = refl
pick-filter t test xs tells (p ∷ ps) =
    picked_one t test xs p ps (slice_get xs p) refl (tells p) (pick-filter t test xs tells ps)

one_reversed : {X : Type 0} (xs : List X) (p : ℕ) (o : Option X) → slice_get xs p ≡ o
    → reverse (pick (p ∷ []) xs) ≡ pick (p ∷ []) xs
one_reversed xs p None h = rw h refl
one_reversed xs p (Some x) h = rw h refl

pub pick-reverse : {X : Type 0} (ps : List ℕ) (xs : List X) → pick (reverse ps) xs ≡ reverse (pick ps xs)
pick-reverse [] xs = refl
pick-reverse (p ∷ ps) xs =
    ap (λ qs. pick qs xs) (reverse-append (p ∷ []) ps)
    ∙ pick-append (reverse ps) (p ∷ []) xs
    ∙ ap (λ ys. ys ++ pick (p ∷ []) xs) (pick-reverse ps xs)
    ∙ ap (λ ys. reverse (pick ps xs) ++ ys) (sym (one_reversed xs p (slice_get xs p) refl))
    ∙ sym (reverse-append (pick (p ∷ []) xs) (pick ps xs))
    ∙ sym (ap reverse (pick-append (p ∷ []) ps xs))

-- all places of a list, those that pass in front and reversed
pub pick-reversed_first : {X : Type 0} (t : ℕ → Bool) (test : X → Bool) (xs : List X)
    → ((p : ℕ) (x : X) → slice_get xs p ≡ Some x → t p ≡ test x)
    → pick (reversed_first t (range_with_len 0 (length xs))) xs ≡ reversed_first test xs
pick-reversed_first t test xs tells =
    let ps = range_with_len 0 (length xs) in
    let all = pick-all (length xs) xs refl in
    pick-append (reverse (filter t ps)) (filter (λ p. not (t p)) ps) xs
    ∙ ap (λ ys. ys ++ pick (filter (λ p. not (t p)) ps) xs) (pick-reverse (filter t ps) xs
    ∙ ap reverse (pick-filter t test xs tells ps ∙ ap (filter test) all))
    ∙ ap (λ ys. reverse (filter test xs) ++ ys)
    (pick-filter (λ p. not (t p)) (λ x. not (test x)) xs (λ p x h. ap not (tells p x h)) ps
    ∙ ap (filter (λ x. not (test x))) all)

-- one element more
filter-push : {X : Type 0} (test : X → Bool) (xs : List X) (x : X) → filter test (xs ++ x ∷ []) ≡ filter test xs
    ++ (if test x then x ∷ [] else [])
filter-push test xs x = filter-append test xs (x ∷ [])

pushed : {X : Type 0} (test : X → Bool) (xs : List X) (x : X) (b : Bool) → test x ≡ b
    → reversed_first test (xs ++ x ∷ []) ≡ reverse (filter test xs ++ (if b then x ∷ [] else []))
    ++ (filter (λ y. not (test y)) xs ++ (if not b then x ∷ [] else []))
pushed test xs x b h =
    ap (λ ys. reverse ys ++ filter (λ y. not (test y)) (xs ++ x ∷ [])) (filter-push test xs x)
    ∙ ap (λ ys. reverse (filter test xs ++ (if test x then x ∷ [] else [])) ++ ys)
    (filter-push (λ y. not (test y)) xs x)
    ∙ ap (λ c. reverse (filter test xs ++ (if c then x ∷ [] else []))
    ++ (filter (λ y. not (test y)) xs ++ (if not c then x ∷ [] else []))) h

pub reversed_first-yes : {X : Type 0} (test : X → Bool) (xs : List X) (x : X) → test x ≡ true
    → reversed_first test (xs ++ x ∷ []) ≡ x ∷ reversed_first test xs
reversed_first-yes test xs x h =
    let yes = filter test xs in
    let no = filter (λ y. not (test y)) xs in
    pushed test xs x true h
    ∙ ap (λ ys. ys ++ (no ++ [])) (reverse-append yes (x ∷ []))
    ∙ ap (λ ys. (x ∷ reverse yes) ++ ys) (append-nil no)

pub reversed_first-no : {X : Type 0} (test : X → Bool) (xs : List X) (x : X) → test x ≡ false
    → reversed_first test (xs ++ x ∷ []) ≡ reversed_first test xs ++ x ∷ []
reversed_first-no test xs x h =
    let yes = filter test xs in
    let no = filter (λ y. not (test y)) xs in
    pushed test xs x false h
    ∙ ap (λ ys. reverse ys ++ (no ++ x ∷ [])) (append-nil yes)
    ∙ sym (append_assoc (reverse yes) no (x ∷ []))

-- it loses nothing
pub permuted-reversed_first : {X : Type 0} (test : X → Bool) (xs : List X) → IsPermutation xs (reversed_first test xs)
permuted-reversed_first test xs =
    let yes = filter test xs in
    let no = filter (λ x. not (test x)) xs in
    IsPermutation-trans xs (yes ++ no) (reverse yes ++ no)
    (IsPermutation-filter_both test (λ x. not (test x)) (λ x. refl) xs)
    (IsPermutation-append_left no yes (reverse yes) (IsPermutation-reverse yes))

-- nor does a list with the first of its front behind the others of it
pub permuted-first_behind : {X : Type 0} (n : ℕ) (xs : List X) → IsPermutation xs (first_behind n xs)
permuted-first_behind n xs =
    subst (λ ys. IsPermutation ys (first_behind n xs)) (take-append-drop n xs)
    (IsPermutation-append_left (drop n xs) (take n xs) (first_last (take n xs)) (permuted-first_last (take n xs)))

pub length-first_last : {X : Type 0} (xs : List X) → length (first_last xs) ≡ length xs
length-first_last [] = refl
length-first_last (x ∷ xs) = length-append xs (x ∷ []) ∙ omega arith

pub length-first_behind : {X : Type 0} (n : ℕ) (xs : List X) → length (first_behind n xs) ≡ length xs
length-first_behind n xs =
    length-append (first_last (take n xs)) (drop n xs)
    ∙ ap (λ k. k + length (drop n xs)) (length-first_last (take n xs))
    ∙ sym (length-append (take n xs) (drop n xs))
    ∙ ap length (take-append-drop n xs)

-- the same of what f makes of the elements
map-first_last : {X Y : Type 0} (f : X → Y) (xs : List X) → map f (first_last xs) ≡ first_last (map f xs)
map-first_last f [] = refl
map-first_last f (x ∷ xs) = map-append f xs (x ∷ [])

-- a filter keeps what all are
pub all-filter : {X : Type 0} (P : X → Type 0) (test : X → Bool) (xs : List X) → AllByRecursion P xs
    → AllByRecursion P (filter test xs)
all-filter P test [] h = tt
all-filter P test (x ∷ xs) h =
    elim (test x) as (λ b. AllByRecursion P (if b then x ∷ filter test xs else filter test xs)) [
      | true ↦ (h.0, all-filter P test xs h.1)
      | false ↦ all-filter P test xs h.1
    ]

-- elements behind that don't pass stay behind
pub reversed_first-append : {X : Type 0} (test : X → Bool) (xs ys : List X) → list_any test ys ≡ false
    → reversed_first test (xs ++ ys) ≡ reversed_first test xs ++ ys
reversed_first-append test xs ys none =
    let yes = filter test xs in
    let no = filter (λ x. not (test x)) xs in
    ap (λ zs. reverse zs ++ filter (λ x. not (test x)) (xs ++ ys)) (filter-append test xs ys
    ∙ ap (λ zs. yes ++ zs) (filter-none test ys none) ∙ append-nil yes)
    ∙ ap (λ zs. reverse yes ++ zs) (filter-append (λ x. not (test x)) xs ys
    ∙ ap (λ zs. no ++ zs) (filter_not-none test ys none))
    ∙ sym (append_assoc (reverse yes) no ys)

-- pieces joined again are the list
onto_first-concat : {X : Type 0} (x : X) (pieces : List (List X)) → flat_map (λ piece. piece) (onto_first x pieces)
    ≡ x ∷ flat_map (λ piece. piece) pieces
onto_first-concat x [] = refl
onto_first-concat x (piece ∷ pieces) = refl

pub cut_after-concat : {X : Type 0} (test : X → Bool) (xs : List X) → flat_map (λ piece. piece) (cut_after test xs) ≡ xs
cut_after-concat test [] = refl
cut_after-concat test (x ∷ xs) =
    let rest = cut_after-concat test xs in
    elim (test x) as (λ b. flat_map (λ piece. piece)
    (if b then (x ∷ []) ∷ cut_after test xs else onto_first x (cut_after test xs)) ≡ x ∷ xs) [
      | true ↦ ap (λ ys. x ∷ ys) rest
      | false ↦ onto_first-concat x (cut_after test xs) ∙ ap (λ ys. x ∷ ys) rest
    ]

-- what is picked at places of which the first stands behind others
picked_front : {X : Type 0} (k : ℕ) (xs : List X) → k ≤ length xs → pick (first_last (range_with_len 0 k)) xs
    ≡ first_last (take k xs)
picked_front zero xs l = refl
picked_front (suc k) [] l = absurd (omega arith)
picked_front (suc k) (x ∷ xs) l =
    pick-append (range_with_len 1 k) (0 ∷ []) (x ∷ xs) ∙ ap (λ ys. ys ++ x ∷ []) (pick-range 1 k (x ∷ xs) (omega arith))

pub take-range : (n k : ℕ) → k ≤ n → take k (range_with_len 0 n) ≡ range_with_len 0 k
take-range n k l =
    let i : n ≡ k + (n - k) = omega arith in
    ap (λ m. take k (range_with_len 0 m)) i ∙ ap (take k) (range-append 0 k (n - k))
    ∙ take_at (range_with_len 0 k) (range_with_len (0 + k) (n - k)) k (length-range_with_len 0 k)

pub pick-first_behind : {X : Type 0} (k : ℕ) (xs : List X) → k ≤ length xs
    → pick (first_behind k (range_with_len 0 (length xs))) xs ≡ first_behind k xs
pick-first_behind k xs l =
    let n = length xs in
    let front = first_last (take k (range_with_len 0 n)) in
    pick-append front (drop k (range_with_len 0 n)) xs
    ∙ ap (λ ps. pick (first_last ps) xs ++ pick (drop k (range_with_len 0 n)) xs) (take-range n k l)
    ∙ ap (λ ys. ys ++ pick (drop k (range_with_len 0 n)) xs) (picked_front k xs l)
    ∙ ap (λ ps. first_last (take k xs) ++ pick ps xs) (drop-range 0 n k
    ∙ ap (λ m. range_with_len m (n - k)) (zero-add k))
    ∙ ap (λ ys. first_last (take k xs) ++ ys) (pick-range k (n - k) xs (omega arith) ∙ take_rest xs k)

-- lists that f maps: tests that see no more than before, and the same tests
pub mapped_twice : {X Y Z : Type 0} (f : Y → Z) (g : X → Y) (xs : List X) → map f (map g xs) ≡ map (λ x. f (g x)) xs
mapped_twice f g [] = refl
mapped_twice f g (x ∷ xs) = ap (λ ys. f (g x) ∷ ys) (mapped_twice f g xs)

filter-map : {X Y : Type 0} (test : Y → Bool) (f : X → Y) (xs : List X)
    → filter test (map f xs) ≡ map f (filter (λ x. test (f x)) xs)
filter-map test f [] = refl
filter-map test f (x ∷ xs) =
    elim (test (f x)) as (λ b. (if b then f x ∷ filter test (map f xs) else filter test (map f xs))
    ≡ map f (if b then x ∷ filter (λ y. test (f y)) xs else filter (λ y. test (f y)) xs)) [
      | true ↦ ap (λ ys. f x ∷ ys) (filter-map test f xs)
      | false ↦ filter-map test f xs
    ]

pub filter-same : {X : Type 0} (t u : X → Bool) (xs : List X) → ((x : X) → t x ≡ u x) → filter t xs ≡ filter u xs
filter-same t u [] same = refl
filter-same t u (x ∷ xs) same =
    ap (λ b. if b then x ∷ filter t xs else filter t xs) (same x)
    ∙ ap (λ ys. if u x then x ∷ ys else ys) (filter-same t u xs same)

pub reversed_first-map : {X Y : Type 0} (test : Y → Bool) (f : X → Y) (xs : List X) → reversed_first test (map f xs)
    ≡ map f (reversed_first (λ x. test (f x)) xs)
reversed_first-map test f xs =
    let yes = filter (λ x. test (f x)) xs in
    let no = filter (λ x. not (test (f x))) xs in
    ap (λ ys. reverse ys ++ filter (λ y. not (test y)) (map f xs)) (filter-map test f xs)
    ∙ ap (λ ys. reverse (map f yes) ++ ys) (filter-map (λ y. not (test y)) f xs)
    ∙ ap (λ ys. ys ++ map f no) (sym (map-reverse f yes))
    ∙ sym (map-append f (reverse yes) no)

pub first_behind-map : {X Y : Type 0} (f : X → Y) (k : ℕ) (xs : List X)
    → first_behind k (map f xs) ≡ map f (first_behind k xs)
first_behind-map f k xs =
    ap (λ ys. first_last ys ++ drop k (map f xs)) (take-map f k xs)
    ∙ ap (λ ys. ys ++ drop k (map f xs)) (sym (map-first_last f (take k xs)))
    ∙ ap (λ ys. map f (first_last (take k xs)) ++ ys) (drop-map f k xs)
    ∙ sym (map-append f (first_last (take k xs)) (drop k xs))
