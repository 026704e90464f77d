-- Lookups that put single glyphs in: their subtables add no glyphs, and have no rules.
use Rattle.std.specs.Prelude.{ℕ, ◌==◌, ◌||◌, ◌<◌, ◌≡◌, Bool, true, List, Option, None, Some}
use Rattle.opentype_face.specs.Lookups.{subtables_in, type_in}
use Rattle.opentype_gsub.specs.declared.machine.Outcome.{Outcome}
use Rattle.opentype_gsub.specs.declared.machine.Outcome.TheVariants.{Nothing, Done}

-- whether a subtable of a type puts single glyphs in
abbrev pub is_plain : ℕ → Bool
is_plain kind = (kind == 1) || ((kind == 3) || (kind == 4))

-- a lookup's table has subtables, and all do
abbrev pub ArePlain : List ℕ → Type 0
ArePlain lookup = (0 < subtables_in lookup)
    × ((i : ℕ) → i < subtables_in lookup → is_plain (type_in 7 lookup i) ≡ true)

-- the outcome by the place that the code gives
abbrev pub outcome_of : Option ℕ → Outcome
outcome_of None = Nothing
outcome_of (Some next) = Done next
