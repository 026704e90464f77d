-- The classes of glyphs, and their places in sets, in tables that begin with some glyph.
use Rattle.std.specs.Prelude.{ℕ, ◌+◌, ◌-◌, ◌==◌, ◌<◌, ◌≡◌, List, length, slice_index, Option, None, Some, if◌then◌else◌}
use Rattle.opentype_face.specs.Glyphs.{class_in, coverage_in}

-- the table has the classes of the first glyph and of those behind it
pub record TellsClassDef (bytes : List ℕ) (first : ℕ) (classes : List ℕ) : Type 0 where
  pub same : (i : ℕ) → i < length classes → slice_index classes i ≡ class_in bytes (first + i)

-- a place is kept as the number behind it, so that 0 is none
abbrev pub place_before : ℕ → Option ℕ
place_before n = if n == 0 then None else Some (n - 1)

-- the table has the places of the first glyph and of those behind it
pub record TellsCoverage (set : List ℕ) (first : ℕ) (places : List ℕ) : Type 0 where
  pub same : (i : ℕ) → i < length places →
      place_before (slice_index places i) ≡ coverage_in set (first + i)
