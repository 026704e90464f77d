-- The first piece of a list that is cut.
use Rattle.std.proofs.Common.{◌≡◌, suc, ◌<◌, Bool, true, false, if◌then◌else◌, List, [], ◌∷◌, length, take, drop, refl, ap, arith}
use Rattle.std.specs.List.{onto_first}
use Rattle.shapers_buffer.specs.Lists.{cut_after}
use Rattle.shapers_universal.specs.UniversalWalk.{first_piece_len}

pub cut_first : {X : Type 0} (test : X → Bool) (xs : List X) → 0 < length xs
    → cut_after test xs ≡ take (first_piece_len test xs) xs ∷ cut_after test (drop (first_piece_len test xs) xs)
cut_first test [] some = absurd (omega arith)
cut_first test (x ∷ []) some =
    elim (test x) as (λ b. (if b then (x ∷ []) ∷ [] else (x ∷ []) ∷ []) ≡ take (if b then 1 else 1) (x ∷ [])
    ∷ cut_after test (drop (if b then 1 else 1) (x ∷ []))) [ true ↦ refl | false ↦ refl ]
cut_first test (x ∷ y ∷ ys) some =
    let m = first_piece_len test (y ∷ ys) in
    elim (test x) as (λ b. (if b then (x ∷ []) ∷ cut_after test (y ∷ ys) else onto_first x (cut_after test (y ∷ ys)))
    ≡ take (if b then 1 else suc m) (x ∷ y ∷ ys) ∷ cut_after test (drop (if b then 1 else suc m) (x ∷ y ∷ ys))) [
      | true ↦ refl
      | false ↦ ap (onto_first x) (cut_first test (y ∷ ys) (omega arith))
    ]
