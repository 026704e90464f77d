-- The parts of a text, from its end: what stands before its last part, and that part.
use Rattle.std.proofs.Common.{arith}
use Rattle.std.proofs.Common.{◌≡◌, Bool, true, false, cond, List, [], ◌∷◌, ◌++◌, refl}
use Rattle.std.specs.List.{onto_first}
use Rattle.shapers_stretch.specs.Cells.{Cell, cut_between, is_tile, parts_of_text}

piece_if : {X : Type 0} (b : Bool) (x : X) (pieces : List (List X)) (P : List (List X) → Type 0)
    → ((piece : List X) (pieces : List (List X)) → P (piece ∷ pieces))
    → P (cond b ((x ∷ []) ∷ pieces) (onto_first x pieces))
piece_if true x pieces P f = f (x ∷ []) pieces
piece_if false x [] P f = f (x ∷ []) []
piece_if false x (piece ∷ pieces) P f = f (x ∷ piece) pieces

-- a list that isn't empty has a first piece
pub cut_some : {X : Type 0} (apart : X → X → Bool) (x : X) (xs : List X) (P : List (List X) → Type 0)
    → ((piece : List X) (pieces : List (List X)) → P (piece ∷ pieces)) → P (cut_between apart (x ∷ xs))
cut_some apart x xs P = search arith

cut_step_at : {X : Type 0} (b : Bool) (x : X) (piece : List X) (pieces more : List (List X))
    → cond b ((x ∷ []) ∷ ((piece ∷ pieces) ++ more)) (onto_first x ((piece ∷ pieces) ++ more))
    ≡ cond b ((x ∷ []) ∷ (piece ∷ pieces)) (onto_first x (piece ∷ pieces)) ++ more
cut_step_at true x piece pieces more = refl
cut_step_at false x piece pieces more = refl

cut_step : {X : Type 0} (b : Bool) (x : X) (first rest more : List (List X)) (piece : List X) (pieces : List (List X))
    → first ≡ piece ∷ pieces → rest ≡ first ++ more → cond b ((x ∷ []) ∷ rest) (onto_first x rest)
    ≡ cond b ((x ∷ []) ∷ first) (onto_first x first) ++ more
cut_step = search arith

-- where two neighbours stand apart, the pieces of both sides follow one another; x opens the left
-- side, which ends with a
pub cut_between-append : {X : Type 0} (apart : X → X → Bool) (xs : List X) (a b : X) (ys : List X) → apart a b ≡ true
    → cut_between apart ((xs ++ a ∷ []) ++ b ∷ ys) ≡ cut_between apart (xs ++ a ∷ []) ++ cut_between apart (b ∷ ys)
cut_between-append apart [] a b ys e = cc
cut_between-append {X} apart (x ∷ []) a b ys e = search arith
cut_between-append {X} apart (x ∷ (y ∷ xs)) a b ys e =
    let rest = cut_between-append apart (y ∷ xs) a b ys e in search arith

-- the last part of a text behind others: the tile a ends the part before it, and b, which is no tile, opens it
pub parts-append : (front : List Cell) (a b : Cell) (rest : List Cell) → is_tile a.0 ≡ true → is_tile b.0 ≡ false
    → parts_of_text ((front ++ a ∷ []) ++ b ∷ rest) ≡ parts_of_text (front ++ a ∷ []) ++ parts_of_text (b ∷ rest)
parts-append = search (arith, cut_between-append)
