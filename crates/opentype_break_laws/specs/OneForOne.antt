-- Lookups of a font that put one glyph for one, whatever stands beside it.
use Rattle.std.specs.Prelude.{ℕ, ◌==◌, ◌&&◌, ◌||◌, not, ◌<◌, ◌≡◌, Bool, true, List}
use Rattle.opentype_face.specs.Lookups.{subtables_in, type_in}

-- Whether a subtable of a type does so: a single substitution (type 1), and an alternate (type 3)
-- where none is picked at random.
abbrev pub is_one_for_one : Bool → ℕ → Bool
is_one_for_one random kind = (kind == 1) || ((kind == 3) && not random)

-- a lookup's table has subtables, and all do
abbrev pub PutOneForOne : Bool → List ℕ → Type 0
PutOneForOne random table = (0 < subtables_in table)
    × ((i : ℕ) → i < subtables_in table → is_one_for_one random (type_in 7 table i) ≡ true)
