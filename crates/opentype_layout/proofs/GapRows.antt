-- Rows of lists with a gap.
use Rattle.std.proofs.Common.{◌≡◌, ℕ, [], ◌∷◌, refl}
use Rattle.opentype_layout.specs.Gapped.{gapped}

-- a gap of two in the middle, at the start and at the end
middle : gapped {X = ℕ} 1 3 (7 ∷ 8 ∷ 9 ∷ 10 ∷ []) ≡ 7 ∷ 10 ∷ []
middle = refl

start : gapped {X = ℕ} 0 2 (7 ∷ 8 ∷ 9 ∷ 10 ∷ []) ≡ 9 ∷ 10 ∷ []
start = refl

end : gapped {X = ℕ} 2 4 (7 ∷ 8 ∷ 9 ∷ 10 ∷ []) ≡ 7 ∷ 8 ∷ []
end = refl

-- of one, of all, and none
one : gapped {X = ℕ} 2 3 (7 ∷ 8 ∷ 9 ∷ 10 ∷ []) ≡ 7 ∷ 8 ∷ 10 ∷ []
one = refl

all : gapped {X = ℕ} 0 4 (7 ∷ 8 ∷ 9 ∷ 10 ∷ []) ≡ []
all = refl

none : gapped {X = ℕ} 3 3 (7 ∷ 8 ∷ 9 ∷ 10 ∷ []) ≡ 7 ∷ 8 ∷ 9 ∷ 10 ∷ []
none = refl
