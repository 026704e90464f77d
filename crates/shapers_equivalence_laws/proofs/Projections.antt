-- Texts with the marks of one class alone.
use Rattle.std.proofs.Common.{◌≡◌, ◌≢◌, ◌||◌, ℕ, Bool, true, false, cond, eqb, List, [], ◌∷◌, ◌++◌, refl, sym, ap, ◌∙◌, arith}
use Rattle.std.specs.List.{AllByRecursion, filter}
use Rattle.std.proofs.lemmas.Bool.Decides.{nat_tests}
use Rattle.std.proofs.lemmas.List.{append-nil}
use Rattle.std.proofs.lemmas.List.Elements.{filter-append}
use Rattle.shapers_equivalence_laws.specs.Equivalence.{SameButForOrder, is_starter_or_in, with_marks_of}

pub marks-append : (class : ℕ → ℕ) (k : ℕ) (xs ys : List ℕ)
    → with_marks_of class k (xs ++ ys) ≡ with_marks_of class k xs ++ with_marks_of class k ys
marks-append class k xs ys = filter-append (is_starter_or_in class k) xs ys

none_left : (p : ℕ → Bool) (xs : List ℕ) → AllByRecursion (λ x. p x ≡ false) xs → filter p xs ≡ []
none_left p [] all = refl
none_left p (x ∷ xs) all = ap (λ b. cond b (x ∷ filter p xs) (filter p xs)) all.0 ∙ none_left p xs all.1

-- marks of one class, and characters that are marks of others
abbrev pub AllIn : (ℕ → ℕ) → ℕ → List ℕ → Type 0
AllIn class a xs = AllByRecursion (λ x. class x ≡ a) xs

abbrev pub NoneIn : (ℕ → ℕ) → ℕ → List ℕ → Type 0
NoneIn class a xs = AllByRecursion (λ x. (class x ≢ 0) × (class x ≢ a)) xs

other_class : (class : ℕ → ℕ) (a k : ℕ) (xs : List ℕ) → a ≢ 0 → eqb k a ≡ false → AllIn class a xs
    → AllByRecursion (λ x. is_starter_or_in class k x ≡ false) xs
other_class class a k [] some differs all = tt
other_class class a k (x ∷ xs) some differs all =
    let is : class x ≡ a = all.0 in
    let out : (eqb (class x) 0 || eqb (class x) k) ≡ false = grind (arith, nat_tests) in
    (out, other_class class a k xs some differs all.1)

own_class : (class : ℕ → ℕ) (a k : ℕ) (xs : List ℕ) → eqb k a ≡ true → NoneIn class a xs
    → AllByRecursion (λ x. is_starter_or_in class k x ≡ false) xs
own_class class a k [] is all = tt
own_class class a k (x ∷ xs) is all =
    let some : class x ≢ 0 = all.0.0 in
    let other : class x ≢ a = all.0.1 in
    let out : (eqb (class x) 0 || eqb (class x) k) ≡ false = grind (arith, nat_tests) in
    (out, own_class class a k xs is all.1)

passes_by : (class : ℕ → ℕ) (a k : ℕ) (xs ys : List ℕ) (b : Bool) → eqb k a ≡ b → a ≢ 0 → AllIn class a xs
    → NoneIn class a ys → with_marks_of class k (xs ++ ys) ≡ with_marks_of class k (ys ++ xs)
passes_by class a k xs ys true e some p q =
    let none : with_marks_of class k ys ≡ [] = none_left (is_starter_or_in class k) ys (own_class class a k ys e q) in
    let f = with_marks_of class k in
    marks-append class k xs ys ∙ ap (λ zs. f xs ++ zs) none ∙ append-nil (f xs)
    ∙ sym (marks-append class k ys xs ∙ ap (λ zs. zs ++ f xs) none)
passes_by class a k xs ys false e some p q =
    let none : with_marks_of class k xs ≡ [] = none_left (is_starter_or_in class k) xs
    (other_class class a k xs some e p) in
    let f = with_marks_of class k in
    marks-append class k xs ys ∙ ap (λ zs. zs ++ f ys) none
    ∙ sym (marks-append class k ys xs ∙ ap (λ zs. f ys ++ zs) none ∙ append-nil (f ys))

-- marks of one class pass marks of others
pub pass_each : (class : ℕ → ℕ) (a : ℕ) (xs ys : List ℕ) → a ≢ 0 → AllIn class a xs → NoneIn class a ys
    → SameButForOrder class (xs ++ ys) (ys ++ xs)
pass_each class a xs ys some p q = λ k. passes_by class a k xs ys (eqb k a) refl some p q

-- ---- as a relation

pub same : (class : ℕ → ℕ) (xs : List ℕ) → SameButForOrder class xs xs
same class xs = λ k. refl

pub as_is : (class : ℕ → ℕ) (xs ys : List ℕ) → xs ≡ ys → SameButForOrder class xs ys
as_is class xs ys e = λ k. ap (with_marks_of class k) e

pub then : (class : ℕ → ℕ) (xs ys zs : List ℕ) → SameButForOrder class xs ys → SameButForOrder class ys zs
    → SameButForOrder class xs zs
then class xs ys zs one two = λ k. one k ∙ two k

pub beside : (class : ℕ → ℕ) (xs ys us vs : List ℕ) → SameButForOrder class xs us → SameButForOrder class ys vs
    → SameButForOrder class (xs ++ ys) (us ++ vs)
beside class xs ys us vs one two = λ k.
    marks-append class k xs ys ∙ ap (λ zs. zs ++ with_marks_of class k ys) (one k)
    ∙ ap (λ zs. with_marks_of class k us ++ zs) (two k) ∙ sym (marks-append class k us vs)
