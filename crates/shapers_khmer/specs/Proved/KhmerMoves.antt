-- Moves to the front: what they permute, how far they reach, and that they stay inside what merges.
use Rattle.std.proofs.Common.{append-nil, ℕ, ◌+◌, ◌-◌, ◌<◌, ◌≤◌, ◌≡◌, inl, inr, List, [], ◌∷◌, ◌++◌, map, length, get_or, take, drop, refl, sym, ◌∙◌, ap, subst, arith, append_assoc, length-take-le, length-drop}
use Rattle.std.specs.List.{range_with_len}
use Rattle.std.specs.List.Sorted.{IsPermutation}
use Rattle.std.proofs.lemmas.List.{take-map, drop-map, map-append, take-append-drop, drop-drop, get_or-take, get_or-drop, get_or_append_left, get_or-append_right}
use Rattle.std.proofs.lemmas.List.Sorted.{IsPermutation-append_comm, IsPermutation-append_left, IsPermutation-refl, IsPermutation-trans, length_permutation}
use Rattle.std.proofs.lemmas.List.FromFn.{length-range_with_len, get_or-range_with_len}
use Rattle.std.proofs.lemmas.Bool.{cases_lt}
use Rattle.shapers_buffer.specs.Clusters.{stretch_of}
use Rattle.shapers_clusters.specs.Cuts.{EndWithin}
use Rattle.shapers_clusters.specs.Steps.{HeldBetween, MovesInside}
use Rattle.shapers_clusters.proofs.Moves.{held-front, held-rest, held_by, held_over}
use Rattle.shapers_khmer.specs.Khmer.{Move, Pair, Vowel, brought, moved, moved_all, merged_by_move}

-- the front, what moves and the rest are all
parts : {X : Type 0} (n k : ℕ) (xs : List X) → (take n xs ++ stretch_of n (n + k) xs) ++ drop (n + k) xs ≡ xs
parts n k xs =
    let len : (n + k) - n ≡ k = omega arith in
    ap (λ m. (take n xs ++ take m (drop n xs)) ++ drop (n + k) xs) len
    ∙ append_assoc (take n xs) (take k (drop n xs)) (drop (n + k) xs)
    ∙ ap (λ ys. take n xs ++ (take k (drop n xs) ++ ys)) (sym (drop-drop k n xs))
    ∙ ap (λ ys. take n xs ++ ys) (take-append-drop k (drop n xs))
    ∙ take-append-drop n xs

permuted-brought : {X : Type 0} (n k : ℕ) (xs : List X) → IsPermutation xs (brought n k xs)
permuted-brought n k xs =
    let a = take n xs in
    let b = stretch_of n (n + k) xs in
    let c = drop (n + k) xs in
    subst (λ ys. IsPermutation ys (brought n k xs)) (parts n k xs)
    (subst (λ ys. IsPermutation ((a ++ b) ++ c) ys) (append_assoc b a c)
    (IsPermutation-append_left c (a ++ b) (b ++ a) (IsPermutation-append_comm a b)))

permuted-moved : {X : Type 0} (move : Move) (xs : List X) → IsPermutation xs (moved move xs)
permuted-moved (Pair over) xs = permuted-brought over 2 xs
permuted-moved (Vowel over) xs = permuted-brought over 1 xs

pub permuted-moved_all : {X : Type 0} (moves : List Move) (xs : List X) → IsPermutation xs (moved_all moves xs)
permuted-moved_all [] xs = IsPermutation-refl xs
permuted-moved_all (move ∷ moves) xs =
    IsPermutation-trans xs (moved move xs) (moved_all moves (moved move xs)) (permuted-moved move xs)
    (permuted-moved_all moves (moved move xs))

-- moves of a mapped list
pub brought-map : {X Y : Type 0} (f : X → Y) (n k : ℕ) (xs : List X) → brought n k (map f xs) ≡ map f (brought n k xs)
brought-map f n k xs =
    ap (λ ys. take ((n + k) - n) ys ++ (take n (map f xs) ++ drop (n + k) (map f xs))) (drop-map f n xs)
    ∙ ap (λ ys. ys ++ (take n (map f xs) ++ drop (n + k) (map f xs))) (take-map f ((n + k) - n) (drop n xs))
    ∙ ap (λ ys. map f (stretch_of n (n + k) xs) ++ (ys ++ drop (n + k) (map f xs))) (take-map f n xs)
    ∙ ap (λ ys. map f (stretch_of n (n + k) xs) ++ (map f (take n xs) ++ ys)) (drop-map f (n + k) xs)
    ∙ ap (λ ys. map f (stretch_of n (n + k) xs) ++ ys) (sym (map-append f (take n xs) (drop (n + k) xs)))
    ∙ sym (map-append f (stretch_of n (n + k) xs) (take n xs ++ drop (n + k) xs))

-- what stands where after a move
pub get_or-brought_first : (n k : ℕ) (xs : List ℕ) (p : ℕ) → n + k ≤ length xs → p < k → get_or (brought n k xs) p 0
    ≡ get_or xs (n + p) 0
get_or-brought_first n k xs p l h =
    let len : length (stretch_of n (n + k) xs) ≡ k =
    omega (arith, length-take-le ((n + k) - n) (drop n xs), length-drop n xs) in
    get_or_append_left (stretch_of n (n + k) xs) (take n xs ++ drop (n + k) xs) 0 p (omega arith)
    ∙ get_or-take ((n + k) - n) (drop n xs) p 0 (omega arith)
    ∙ get_or-drop n xs p 0

pub get_or-brought_passed : (n k : ℕ) (xs : List ℕ) (p : ℕ) → n + k ≤ length xs → k ≤ p → p < n + k
    → get_or (brought n k xs) p 0 ≡ get_or xs (p - k) 0
get_or-brought_passed n k xs p l h i =
    let len : length (stretch_of n (n + k) xs) ≡ k =
    omega (arith, length-take-le ((n + k) - n) (drop n xs), length-drop n xs) in
    get_or-append_right (stretch_of n (n + k) xs) (take n xs ++ drop (n + k) xs) k p 0 len h
    ∙ get_or_append_left (take n xs) (drop (n + k) xs) 0 (p - k) (omega (arith, length-take-le n xs))
    ∙ get_or-take n xs (p - k) 0 (omega arith)

pub get_or-brought_behind : (n k : ℕ) (xs : List ℕ) (p : ℕ) → n + k ≤ length xs → n + k ≤ p
    → get_or (brought n k xs) p 0 ≡ get_or xs p 0
get_or-brought_behind n k xs p l h =
    let len : length (stretch_of n (n + k) xs) ≡ k =
    omega (arith, length-take-le ((n + k) - n) (drop n xs), length-drop n xs) in
    let len2 : length (take n xs) ≡ n = length-take-le n xs (omega arith) in
    let at : (n + k) + ((p - k) - n) ≡ p = omega arith in
    get_or-append_right (stretch_of n (n + k) xs) (take n xs ++ drop (n + k) xs) k p 0 len (omega arith)
    ∙ get_or-append_right (take n xs) (drop (n + k) xs) n (p - k) 0 len2 (omega arith)
    ∙ get_or-drop (n + k) xs ((p - k) - n) 0
    ∙ ap (λ q. get_or xs q 0) at

pub length-brought : {X : Type 0} (n k : ℕ) (xs : List X) → length (brought n k xs) ≡ length xs
length-brought n k xs = length_permutation xs (brought n k xs) (permuted-brought n k xs)

pub length-moved_all : {X : Type 0} (moves : List Move) (xs : List X) → length (moved_all moves xs) ≡ length xs
length-moved_all moves xs = length_permutation xs (moved_all moves xs) (permuted-moved_all moves xs)

held_itself : (sts : List (ℕ × ℕ)) (p q : ℕ) → p ≡ q → HeldBetween sts p q
held_itself sts p q same x low high = absurd (omega arith)

-- one more move stays inside what merged, if the moves before it did
inside_more : (n k : ℕ) (sts : List (ℕ × ℕ)) (order : List ℕ) → n + k ≤ length order → MovesInside sts order
    → MovesInside (sts ++ (0, n + k) ∷ []) (brought n k order)
inside_more n k sts order l before p h =
    let all = sts ++ (0, n + k) ∷ [] in
    let len = length-brought n k order in
    let old : (q : ℕ) → q < length order → HeldBetween all q (get_or order q 0) =
    λ q i. held-front sts ((0, n + k) ∷ []) q (get_or order q 0) (before q i) in
    let over : (q : ℕ) → p < n + k → q < n + k → HeldBetween all p q =
    λ q i j. held-rest sts ((0, n + k) ∷ []) p q
    (held_by ((0, n + k) ∷ []) 0 (0, 0) (omega arith) p q (omega arith) i (omega arith) j) in
    let reach : (q : ℕ) → q < length order → HeldBetween all p q → get_or (brought n k order) p 0 ≡ get_or order q 0
    → HeldBetween all p (get_or (brought n k order) p 0) =
    λ q i hold is. subst (λ x. HeldBetween all p x) (sym is) (held_over all p q (get_or order q 0) hold (old q i)) in
    elim (cases_lt p k) [
      | inl first ↦ reach (n + p) (omega arith) (over (n + p) (omega arith) (omega arith))
          (get_or-brought_first n k order p l first)
      | inr later ↦ elim (cases_lt p (n + k)) [
        | inl passed ↦ reach (p - k) (omega arith) (over (p - k) passed (omega arith))
            (get_or-brought_passed n k order p l later passed)
        | inr behind ↦ reach p (omega arith) (held_itself all p p refl) (get_or-brought_behind n k order p l behind)
      ]
    ]

inside_all : (moves : List Move) (sts : List (ℕ × ℕ)) (order : List ℕ)
    → EndWithin (length order) (map merged_by_move moves) → MovesInside sts order
    → MovesInside (sts ++ map merged_by_move moves) (moved_all moves order)
inside_all [] sts order ends before = subst (λ xs. MovesInside xs order) (sym (append-nil sts)) before
inside_all (Pair over ∷ moves) sts order ends before =
    let next = inside_more over 2 sts order ends.0 before in
    let rest = inside_all moves (sts ++ (0, over + 2) ∷ []) (brought over 2 order)
    (subst (λ n. EndWithin n (map merged_by_move moves)) (sym (length-brought over 2 order)) ends.1) next in
    subst (λ xs. MovesInside xs (moved_all moves (brought over 2 order)))
    (append_assoc sts ((0, over + 2) ∷ []) (map merged_by_move moves)) rest
inside_all (Vowel over ∷ moves) sts order ends before =
    let next = inside_more over 1 sts order ends.0 before in
    let rest = inside_all moves (sts ++ (0, over + 1) ∷ []) (brought over 1 order)
    (subst (λ n. EndWithin n (map merged_by_move moves)) (sym (length-brought over 1 order)) ends.1) next in
    subst (λ xs. MovesInside xs (moved_all moves (brought over 1 order)))
    (append_assoc sts ((0, over + 1) ∷ []) (map merged_by_move moves)) rest

pub inside_merged : (moves : List Move) (n : ℕ) → EndWithin n (map merged_by_move moves)
    → MovesInside (map merged_by_move moves) (moved_all moves (range_with_len 0 n))
inside_merged moves n ends =
    let len = length-range_with_len 0 n in
    inside_all moves [] (range_with_len 0 n) (subst (λ m. EndWithin m (map merged_by_move moves)) (sym len) ends)
    (λ p h. held_itself
    [] p (get_or (range_with_len 0 n) p 0) (let at = get_or-range_with_len 0 n p 0 (omega arith) in omega arith))
