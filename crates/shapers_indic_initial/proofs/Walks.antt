-- A walk over a list from the left that changes each element by what it carries along.
use Rattle.std.proofs.Common.{List, [], ◌∷◌}

abbrev pub walked : {S X : Type 0} → (S → X → S × X) → S → List X → List X
walked step s [] = []
walked step s (x ∷ xs) = (step s x).1 ∷ walked step (step s x).0 xs
