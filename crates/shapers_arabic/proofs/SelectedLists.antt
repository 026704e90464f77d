-- The selector rule over parts of a text.
use Rattle.std.proofs.Common.{◌≡◌, ℕ, suc, cond, List, [], ◌∷◌, ◌++◌, length, reverse, refl, ap, arith, append_assoc}
use Rattle.std.specs.List.{zip}
use Rattle.std.proofs.lemmas.List.{reverse-append}
use Rattle.shapers_arabic.specs.Joining.{is_selector, form_behind, selected}

pub zip-append : (cs ds : List ℕ) (fs gs : List ℕ) → length fs ≡ length cs
    → zip (cs ++ ds) (fs ++ gs) ≡ zip cs fs ++ zip ds gs
zip-append [] ds [] gs e = refl
zip-append (c ∷ cs) ds (f ∷ fs) gs e = cc (zip-append cs ds fs gs (omega arith))
zip-append _ ds _ gs e = absurd (omega arith)

pub length-selected : (before places : List (ℕ × ℕ)) → length (selected before places) ≡ length places
length-selected before [] = refl
length-selected before ((c, a) ∷ ps) = ap suc (length-selected ((c, a) ∷ before) ps)

pub selected-append : (before xs ys : List (ℕ × ℕ)) → selected before (xs ++ ys) ≡ selected before xs
    ++ selected (reverse xs ++ before) ys
selected-append before [] ys = refl
selected-append before ((c, a) ∷ xs) ys =
    search (arith, selected-append ((c, a) ∷ before) xs ys, reverse-append ((c, a) ∷ []) xs, append_assoc)

-- behind a place that is no selector nothing earlier counts
pub selected-same : (before others places : List (ℕ × ℕ))
    → ((own : ℕ) → form_behind before own ≡ form_behind others own) → selected before places ≡ selected others places
selected-same before others [] e = refl
selected-same before others ((c, a) ∷ ps) e =
    cc (e a, selected-same ((c, a) ∷ before) ((c, a) ∷ others) ps (λ own. ap (λ x. cond (is_selector c) x a) (e a)))
