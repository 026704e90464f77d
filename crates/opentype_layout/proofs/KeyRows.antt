-- What a key bars: a list that begins with another number, none, or each.
use Rattle.std.specs.Prelude.{ℕ, ◌≡◌, true, false, List, [], ◌∷◌, refl}
use Rattle.opentype_layout.specs.Keys.{bars, begins_with}
use Rattle.opentype_layout.specs.declared.keys.Key.TheVariants.{Any, Number, Nothing}

-- lists that begin with the number 260, two bytes each
abbrev numbers : List ℕ
numbers = 1 ∷ 4 ∷ 0 ∷ 7 ∷ []

-- whether each of these keys bars such a list: any, that number, another one, class 0, and none
barred : bars Any (begins_with numbers) ∷ bars (Number 260) (begins_with numbers)
    ∷ bars (Number 7) (begins_with numbers) ∷ bars (Number 0) (begins_with numbers)
    ∷ bars Nothing (begins_with numbers) ∷ [] ≡ false ∷ false ∷ true ∷ true ∷ true ∷ []
unfolding bars
barred = refl

-- a list of no bytes begins with 0, as a list of class 0 does
none : bars (Number 0) (begins_with []) ∷ bars (Number 7) (begins_with []) ∷ [] ≡ false ∷ true ∷ []
unfolding bars
none = refl
