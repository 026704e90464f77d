-- Lists of which no element passes a test.
use Rattle.std.proofs.Common.{arith}
use Rattle.std.proofs.Common.{ℕ, ◌≡◌, Bool, false, not, List, [], ◌∷◌, filter, take, drop, refl, sym, ◌∙◌, ap, take-append-drop}
use Rattle.std.specs.List.{list_any}
use Rattle.std.proofs.lemmas.Bool.{or_parts}
use Rattle.std.proofs.lemmas.List.Folds.{list_any-append}

-- the part behind some of them
pub none_behind : {X : Type 0} (test : X → Bool) (n : ℕ) (xs : List X) → list_any test xs ≡ false
    → list_any test (drop n xs) ≡ false
none_behind test n xs none =
    (or_parts _ _ (sym (list_any-append test (take n xs) (drop n xs)) ∙ ap (list_any test) (take-append-drop n xs)
    ∙ none)).1

-- a filter keeps none, and one of the others keeps all
pub filter-none : {X : Type 0} (test : X → Bool) (xs : List X) → list_any test xs ≡ false → filter test xs ≡ []
filter-none test [] h = refl
filter-none test (x ∷ xs) h =
    let parts : (test x ≡ false) × (list_any test xs ≡ false) = search arith in
    rw parts.0 (filter-none test xs parts.1)

pub filter_not-none : {X : Type 0} (test : X → Bool) (xs : List X) → list_any test xs ≡ false
    → filter (λ x. not (test x)) xs ≡ xs
filter_not-none test [] h = refl
filter_not-none test (x ∷ xs) h = search (arith, filter_not-none test xs (or_parts (test x) (list_any test xs) h).1)
