-- Laws of picked elements.
use Rattle.std.proofs.Common.{ℕ, zero, suc, ◌+◌, ◌<◌, ◌≤◌, ◌≡◌, ◌⊎◌, inl, inr, List, [], ◌∷◌, ◌++◌, Option, Some, None, map, length, get_or, take, drop, refl, ◌∙◌, arith}
use Rattle.std.specs.List.{AllByRecursion, AllZip, slice_get, range_with_len, cons_option}
use Rattle.std.proofs.lemmas.Option.{slice_get-get_or, slice_get_past, slice_get-map}
use Rattle.std.proofs.lemmas.List.{drop_more, take_all}
use Rattle.std.proofs.lemmas.List.Elements.{filter_map-append}
use Rattle.std.proofs.lemmas.Bool.{cases_lt}
use Rattle.shapers_buffer.proofs.MappedLists.{all-range}
use Rattle.shapers_buffer.specs.Places.{pick}

pub pick-within : {X : Type 0} (d : X) (p : ℕ) (ps : List ℕ) (xs : List X) → p < length xs
    → pick (p ∷ ps) xs ≡ get_or xs p d ∷ pick ps xs
pick-within d p ps xs h = cc (slice_get-get_or xs p d h)

pick-past : {X : Type 0} (p : ℕ) (ps : List ℕ) (xs : List X) → length xs ≤ p → pick (p ∷ ps) xs ≡ pick ps xs
pick-past p ps xs h = cc (slice_get_past xs p h)

pub nothing_picked : {X : Type 0} (ps : List ℕ) (xs : List X) → length xs ≡ 0 → pick ps xs ≡ []
nothing_picked [] xs h = refl
nothing_picked (p ∷ ps) xs h = pick-past p ps xs (omega arith) ∙ nothing_picked ps xs h

-- an element of a list that isn't empty
pub some_element : {X : Type 0} (xs : List X) → ((length xs ≡ 0) ⊎ X)
some_element [] = inl refl
some_element (x ∷ xs) = inr x

pub length-pick : {X : Type 0} (ps : List ℕ) (xs : List X) → AllByRecursion (λ p. p < length xs) ps
    → length (pick ps xs) ≡ length ps
length-pick [] xs h = refl
length-pick (p ∷ ps) xs h = elim (some_element xs) [
  | inl e ↦ absurd (omega (arith, h.0))
  | inr d ↦ cc (pick-within d p ps xs h.0, length-pick ps xs h.1)
]

pub get_or-pick : {X : Type 0} (d : X) (ps : List ℕ) (xs : List X) → AllByRecursion (λ p. p < length xs) ps → (k : ℕ)
    → k < length ps → get_or (pick ps xs) k d ≡ get_or xs (get_or ps k 0) d
get_or-pick d [] xs h k l = absurd (omega arith)
get_or-pick d (p ∷ ps) xs h zero l = cc (pick-within d p ps xs h.0)
get_or-pick d (p ∷ ps) xs h (suc k) l = cc (pick-within d p ps xs h.0, get_or-pick d ps xs h.1 k (omega arith))

pub pick-map : {X Y : Type 0} (f : X → Y) (ps : List ℕ) (xs : List X) → pick ps (map f xs) ≡ map f (pick ps xs)
pick-map f [] xs = refl
pick-map f (p ∷ ps) xs = search (arith, slice_get-map, pick-map f ps xs)

pub pick-append : {X : Type 0} (ps qs : List ℕ) (xs : List X) → pick (ps ++ qs) xs ≡ pick ps xs ++ pick qs xs
pick-append ps qs xs = filter_map-append (slice_get xs) ps qs

pub within_at : (n : ℕ) (ps : List ℕ) → AllByRecursion (λ p. p < n) ps → (k : ℕ) → k < length ps → get_or ps k 0 < n
within_at n [] h k l = absurd (omega arith)
within_at n (p ∷ ps) h zero l = h.0
within_at n (p ∷ ps) h (suc k) l = within_at n ps h.1 k (omega arith)

pub pick-pick : {X : Type 0} (qs ps : List ℕ) (xs : List X) → AllByRecursion (λ p. p < length xs) ps
    → pick qs (pick ps xs) ≡ pick (pick qs ps) xs
pick-pick [] ps xs h = refl
pick-pick (q ∷ qs) ps xs h = elim (cases_lt q (length ps)) [
  | inl l ↦ elim (some_element xs) [
    | inl e ↦ search (arith, within_at (length xs) ps h q l)
    | inr d ↦
        cc (
          pick-within d q qs (pick ps xs) (omega (arith, length-pick ps xs h)),
          get_or-pick d ps xs h q l,
          pick-pick qs ps xs h,
          pick-within 0 q qs ps l,
          pick-within d (get_or ps q 0) (pick qs ps) xs (within_at (length xs) ps h q l),
        )
  ]
  | inr l ↦
      cc (pick-past q qs (pick ps xs) (omega (arith, length-pick ps xs h)), pick-pick qs ps xs h, pick-past q qs ps l)
]

pub within_picked : (n : ℕ) (qs ps : List ℕ) → AllByRecursion (λ p. p < n) ps → AllByRecursion (λ p. p < n) (pick qs ps)
within_picked n [] ps h = tt
within_picked n (q ∷ qs) ps h = elim (cases_lt q (length ps)) [
  | inl l ↦ search (arith, pick-within 0 q qs ps l, within_at, within_picked n qs ps h)
  | inr l ↦ search (arith, pick-past, within_picked n qs ps h)
]

pub within_range : (a k n : ℕ) → a + k ≤ n → AllByRecursion (λ p. p < n) (range_with_len a k)
within_range a k n h = all-range (λ p. p < n) a k (λ p low high. omega arith)

-- the places from a on, k of them, give that stretch
pub pick-range : {X : Type 0} (a k : ℕ) (xs : List X) → a + k ≤ length xs → pick (range_with_len a k) xs
    ≡ take k (drop a xs)
pick-range a zero xs h = refl
pick-range a (suc k) xs h = elim (some_element xs) [
  | inl e ↦ absurd (omega arith)
  | inr d ↦
      search (
        arith,
        pick-within d a (range_with_len (a + 1) k) xs (omega arith),
        pick-range (a + 1) k xs (omega arith),
        drop_more,
      )
]

pub pick-all : {X : Type 0} (n : ℕ) (xs : List X) → length xs ≡ n → pick (range_with_len 0 n) xs ≡ xs
pick-all n xs h = pick-range 0 n xs (omega arith) ∙ take_all n xs (omega arith)

-- both have no element there, or two that are related
abbrev BothHave : {X Y : Type 0} → (X → Y → Type 0) → Option X → Option Y → Type 0
BothHave R None None = Unit {0}
BothHave R None (Some y) = ⊥
BothHave R (Some x) None = ⊥
BothHave R (Some x) (Some y) = R x y

get_zip : {X Y : Type 0} (R : X → Y → Type 0) (p : ℕ) (xs : List X) (ys : List Y) → AllZip R xs ys
    → BothHave R (slice_get xs p) (slice_get ys p)
get_zip R p [] [] h = tt
get_zip R zero (x ∷ xs) (y ∷ ys) h = h.0
get_zip R (suc p) (x ∷ xs) (y ∷ ys) h = get_zip R p xs ys h.1
get_zip R p _ _ h = absurd h

cons_zip : {X Y : Type 0} (R : X → Y → Type 0) (o : Option X) (u : Option Y) (xs : List X) (ys : List Y)
    → BothHave R o u → AllZip R xs ys → AllZip R (cons_option o xs) (cons_option u ys)
cons_zip R None None xs ys h i = i
cons_zip R (Some x) (Some y) xs ys h i = (h, i)
cons_zip R _ _ xs ys h i = absurd h

pick-cons_zip : {X Y : Type 0} (R : X → Y → Type 0) (p : ℕ) (ps : List ℕ) (xs : List X) (ys : List Y) → AllZip R xs ys
    → AllZip R (pick ps xs) (pick ps ys) → AllZip R (pick (p ∷ ps) xs) (pick (p ∷ ps) ys)
pick-cons_zip R = search (arith, cons_zip, get_zip)

-- what holds place by place holds of what is picked at the same places
pub AllZip-pick : {X Y : Type 0} (R : X → Y → Type 0) (ps : List ℕ) (xs : List X) (ys : List Y) → AllZip R xs ys
    → AllZip R (pick ps xs) (pick ps ys)
AllZip-pick R [] xs ys h = tt
AllZip-pick R (p ∷ ps) xs ys h = pick-cons_zip R p ps xs ys h (AllZip-pick R ps xs ys h)
