-- Subtables of GPOS with their types, of a lookup that has tables of their sets of glyphs.
use Rattle.std.specs.Prelude.{ℕ, ◌<◌, ◌≡◌, List, length, slice_index_or}
use Rattle.opentype_face.specs.Lookups.{subtable_in, type_in}
use Rattle.opentype_layout.specs.SubstitutionTables.{Subtable, no_subtable}

-- the subtable of a lookup of GPOS with a number
abbrev pub nth_position : List ℕ → ℕ → Subtable
nth_position lookup i = record { kind = type_in 9 lookup i; bytes = subtable_in 9 lookup i }

-- each of these is the lookup's subtable with its number, as far as they go
pub record ArePositions (lookup : List ℕ) (tables : List Subtable) : Type 0 where
  pub each : (i : ℕ) → i < length tables →
      slice_index_or tables i no_subtable ≡ nth_position lookup i
