-- What the subtables of GSUB that look at one glyph put in its place.
use Rattle.std.specs.Prelude.{ℕ, ◌+◌, ◌*◌, ◌%◌, ◌==◌, ◌||◌, nat_lt, List, Option, None, Some, if◌then◌else◌}
use Rattle.opentype_face.specs.Bytes.{u16_in, table_at}
use Rattle.opentype_face.specs.Glyphs.{coverage_in}

-- the place of a glyph in the set that most subtables begin with
abbrev pub covered_in : List ℕ → ℕ → Option ℕ
covered_in bytes glyph = coverage_in (table_at bytes (u16_in bytes 2)) glyph

-- type 1: one glyph for one
abbrev pub single_at : List ℕ → ℕ → Option ℕ → Option ℕ
single_at bytes glyph None = None
single_at bytes glyph (Some i) =
    if u16_in bytes 0 == 1 then Some ((glyph + u16_in bytes 4) % 65536)
    else (if u16_in bytes 0 == 2 then
    (if nat_lt i (u16_in bytes 4) then Some (u16_in bytes (6 + i * 2)) else None)
    else None)

abbrev pub single_in : List ℕ → ℕ → Option ℕ
single_in bytes glyph = single_at bytes glyph (covered_in bytes glyph)

-- types 2 to 4, and format 1 of contexts: the table for the glyph, of those whose offsets stand
-- from byte 6 on
abbrev pub set_at : List ℕ → Option ℕ → Option (List ℕ)
set_at bytes None = None
set_at bytes (Some i) =
    if nat_lt i (u16_in bytes 4) then Some (table_at bytes (u16_in bytes (6 + i * 2))) else None

-- the same where the table's format is 1
abbrev pub set_by : List ℕ → Option ℕ → Option (List ℕ)
set_by bytes place = if u16_in bytes 0 == 1 then set_at bytes place else None

abbrev pub set_for_glyph : List ℕ → ℕ → Option (List ℕ)
set_for_glyph bytes glyph =
    if u16_in bytes 0 == 1 then set_at bytes (covered_in bytes glyph) else None

-- type 3: the alternate that a feature's value chooses, from 1
abbrev pub alternate_at : ℕ → Option (List ℕ) → Option ℕ
alternate_at value None = None
alternate_at value (Some set) =
    if value == 0 || nat_lt (u16_in set 0) value then None else Some (u16_in set (value * 2))

abbrev pub alternate_in : List ℕ → ℕ → ℕ → Option ℕ
alternate_in bytes glyph value = alternate_at value (set_for_glyph bytes glyph)
