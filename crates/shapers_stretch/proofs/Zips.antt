-- Two lists of one length, as a list of pairs; and a list of which a stretch is written anew.
use Rattle.std.proofs.Common.{◌≡◌, ◌≤◌, ◌+◌, ◌-◌, ℕ, zero, suc, List, [], ◌∷◌, ◌++◌, length, take, drop, set, refl, ap, arith}
use Rattle.std.specs.List.{zip, copy_within}
use Rattle.std.proofs.lemmas.List.{take_at, drop_at, take-append-drop, length-take-le, append_assoc, drop-drop}
use Rattle.shapers_buffer.specs.Clusters.{stretch_of}

pub zip-take : {X Y : Type 0} (n : ℕ) (xs : List X) (ys : List Y) → take n (zip xs ys) ≡ zip (take n xs) (take n ys)
zip-take (suc n) (x ∷ xs) (y ∷ ys) = cc (zip-take n xs ys)
zip-take _ _ _ = refl

zip-nothing : {X Y : Type 0} (xs : List X) → [] ≡ zip {K = X} {X = Y} xs []
zip-nothing [] = refl
zip-nothing (x ∷ xs) = refl

pub zip-drop : {X Y : Type 0} (n : ℕ) (xs : List X) (ys : List Y) → drop n (zip xs ys) ≡ zip (drop n xs) (drop n ys)
zip-drop (suc n) (x ∷ xs) [] = zip-nothing (drop n xs)
zip-drop (suc n) (x ∷ xs) (y ∷ ys) = zip-drop n xs ys
zip-drop _ _ ys = refl

pub zip-append : {X Y : Type 0} (xs : List X) (ys : List Y) (us : List X) (vs : List Y) → length xs ≡ length ys
    → zip (xs ++ us) (ys ++ vs) ≡ zip xs ys ++ zip us vs
zip-append [] [] us vs e = refl
zip-append (x ∷ xs) (y ∷ ys) us vs e = cc (zip-append xs ys us vs (omega arith))
zip-append _ _ us vs e = absurd (omega arith)

pub zip-set : {X Y : Type 0} (xs : List X) (ys : List Y) (i : ℕ) (x : X) (y : Y) → zip (set xs i x) (set ys i y)
    ≡ set (zip xs ys) i (x, y)
zip-set [] ys i x y = refl
zip-set (a ∷ xs) [] zero x y = refl
zip-set (a ∷ xs) [] (suc i) x y = refl
zip-set (a ∷ xs) (b ∷ ys) zero x y = refl
zip-set (a ∷ xs) (b ∷ ys) (suc i) x y = cc (zip-set xs ys i x y)

pub length-zipped : {X Y : Type 0} (xs : List X) (ys : List Y) → length xs ≡ length ys → length (zip xs ys) ≡ length xs
length-zipped [] ys e = refl
length-zipped (x ∷ xs) [] e = absurd (omega arith)
length-zipped (x ∷ xs) (y ∷ ys) e = ap suc (length-zipped xs ys (omega arith))

pub zip-stretch : {X Y : Type 0} (s e : ℕ) (xs : List X) (ys : List Y)
    → stretch_of s e (zip xs ys) ≡ zip (stretch_of s e xs) (stretch_of s e ys)
zip-stretch = search (zip-drop, zip-take)

-- a stretch copied to a place further on
pub copied_up : {X : Type 0} (xs : List X) (s e to : ℕ) → s ≤ e → e ≤ length xs → to + (e - s) ≤ length xs
    → drop to (copy_within xs s e to) ≡ stretch_of s e xs ++ drop (to + (e - s)) xs
copied_up = search (arith, append_assoc, drop_at, length-take-le)

-- and so two lists at once
pub pairs_kept : {X Y : Type 0} (xs : List X) (ys : List Y) (us : List X) (vs : List Y) (s e place : ℕ)
    → us ≡ copy_within xs s e (place - (e - s)) → vs ≡ copy_within ys s e (place - (e - s)) → s ≤ e → e ≤ place
    → place ≤ length xs → length xs ≡ length ys → take (place - (e - s)) (zip us vs)
    ≡ take (place - (e - s)) (zip xs ys)
pairs_kept = search (arith, zip-take, append_assoc, take_at, length-take-le)

-- where a stretch ends at a place, what stands from its start on
pub stretch_then : {X : Type 0} (s e : ℕ) (xs : List X) → s ≤ e → drop s xs ≡ stretch_of s e xs ++ drop e xs
stretch_then s e xs = search (arith, take-append-drop (e - s) (drop s xs), drop-drop (e - s) s xs)
