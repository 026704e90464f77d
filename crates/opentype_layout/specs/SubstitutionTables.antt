-- Subtables of GSUB with their types, and the sets of glyphs that they begin with.
use Rattle.std.specs.Prelude.{ℕ, ◌<◌, ◌≡◌, false, List, [], length, slice_index_or, Option}
use Rattle.opentype_face.specs.Glyphs.{coverage_in}
use Rattle.opentype_face.specs.Lookups.{subtable_in, type_in}
use Rattle.opentype_layout.specs.Starts.{first_set_in}

-- a subtable: its type, and its bytes
pub record Subtable : Type 0 where
  pub kind : ℕ
  pub bytes : List ℕ

abbrev pub no_subtable : Subtable
no_subtable = record { kind = 0; bytes = [] }

-- the subtable of a lookup with a number
abbrev pub nth_subtable : List ℕ → ℕ → Subtable
nth_subtable lookup i = record { kind = type_in 7 lookup i; bytes = subtable_in 7 lookup i }

-- the place of a glyph in the set of glyphs that a subtable begins with
abbrev pub first_place : Subtable → ℕ → Option ℕ
first_place it glyph = coverage_in (first_set_in false it.kind it.bytes) glyph

-- each of these is the lookup's subtable with its number, as far as they go
pub record AreSubtables (lookup : List ℕ) (tables : List Subtable) : Type 0 where
  pub each : (i : ℕ) → i < length tables →
      slice_index_or tables i no_subtable ≡ nth_subtable lookup i

-- each of these is a table of the subtable with this type and these bytes
pub record AreContextTables (kind : ℕ) (bytes : List ℕ) (tables : List Subtable) : Type 0 where
  pub each : (i : ℕ) → i < length tables → slice_index_or tables i no_subtable
      ≡ (let it : Subtable = record { kind = kind; bytes = bytes } in it)
