-- Where a lookup of GSUB or of GPOS may begin: with the glyphs of the first set of a subtable.
use Rattle.std.specs.Prelude.{ℕ, ◌+◌, ◌-◌, ◌*◌, ◌%◌, ◌==◌, ◌<◌, ◌≤◌, ◌≡◌, ◌&&◌, ◌⊎◌, not, nat_lt, Bool, true, false, bit_and, is_some, List, [], length, slice_index_or, Option, None, Some, if◌then◌else◌}
use Rattle.shapers_buffer.specs.Glyphs.{Glyph, Glyphs}
use Rattle.opentype_face.specs.Bytes.{u16_in, table_at}
use Rattle.opentype_face.specs.Glyphs.{coverage_in}
use Rattle.opentype_face.specs.Lookups.{lookup_in, subtable_in, subtables_in, type_in}
use Rattle.opentype_layout.specs.Bits.{bit_in}
use Rattle.opentype_layout.specs.Rules.{first_at}
use Rattle.opentype_layout.specs.Text.{glyph_at}
use Rattle.opentype_layout.specs.declared.grid.Grid.{Grid}

-- ---- the first set of a subtable

-- the type whose subtables name another one
abbrev pub extension_type : Bool → ℕ
extension_type of_gpos = if of_gpos then 9 else 7

-- the type of contexts; that of chained contexts is the next one
abbrev pub context_type : Bool → ℕ
context_type of_gpos = if of_gpos then 7 else 5

-- Where the offset of the set stands that a subtable's first glyphs are in: in format 3 of contexts
-- that of the first set of the input, else the one at byte 2.
unfoldable pub starts_at : Bool → ℕ → List ℕ → ℕ
starts_at of_gpos kind bytes =
    if u16_in bytes 0 == 3
    then (if kind == context_type of_gpos then first_at false bytes
    else (if kind == context_type of_gpos + 1 then first_at true bytes else 2))
    else 2

-- the set of a subtable's first glyphs
abbrev pub first_set_in : Bool → ℕ → List ℕ → List ℕ
first_set_in of_gpos kind bytes = table_at bytes (u16_in bytes (starts_at of_gpos kind bytes))

abbrev pub starts_with : Bool → ℕ → List ℕ → ℕ → Bool
starts_with of_gpos kind bytes glyph = is_some (coverage_in (first_set_in of_gpos kind bytes) glyph)

-- the number of a subtable that may begin at a glyph
unfoldable pub starting : Bool → List ℕ → ℕ → ℕ → Option ℕ
starting of_gpos lookup glyph i =
    let kind = type_in (extension_type of_gpos) lookup i in
    let bytes = subtable_in (extension_type of_gpos) lookup i in
    if starts_with of_gpos kind bytes glyph then Some i else None

-- no subtable from one on, and before another, begins at a glyph
pub record NoneStarts (of_gpos : Bool) (lookup : List ℕ) (glyph from end : ℕ) : Type 0 where
  pub none : (i : ℕ) → from ≤ i → i < end → starting of_gpos lookup glyph i ≡ None

-- ---- a bit for each glyph and subtable

-- whether a glyph has a row of bits, and the place of its bit in a column
abbrev pub has_row : Grid → ℕ → Bool
has_row grid glyph = not (nat_lt glyph grid.first) && nat_lt glyph (grid.first + grid.rows)

abbrev pub place_in : Grid → ℕ → ℕ → ℕ
place_in grid glyph i = (glyph - grid.first) * grid.width + i

-- the words have room for all bits
abbrev pub HasRoom : Grid → List ℕ → Type 0
HasRoom grid words = grid.rows * grid.width ≤ 64 * length words

-- of a glyph that has no row, or whose bit in a column isn't set, something is true
pub record LeavesOut (grid : Grid) (words : List ℕ) (i : ℕ) (P : ℕ → Type 0) : Type 0 where
  pub out : (glyph : ℕ) → (has_row grid glyph ≡ true → bit_in words (place_in grid glyph i) ≡ 0) →
      P glyph

-- such a glyph is in none of these ranges
abbrev pub LeavesRange : Grid → List ℕ → ℕ → ℕ → ℕ → Type 0
LeavesRange grid words i from to =
    LeavesOut grid words i (λ glyph. (glyph < from) ⊎ (to < glyph))

-- the bits of a lookup's subtables: each begins at no glyph that is left out
pub record IsStarts (of_gpos : Bool) (lookup : List ℕ) (count : ℕ) (grid : Grid)
    (words : List ℕ) : Type 0 where
  pub counted : count ≡ subtables_in lookup
  pub wide : count ≤ grid.width
  pub narrow : grid.width ≤ 65536
  pub room : HasRoom grid words
  pub out : (i : ℕ) → i < count →
      LeavesOut grid words i (λ glyph. starting of_gpos lookup glyph i ≡ None)

-- each of these is the lookup's with its number, as far as they go
pub record AreStarts (table : List ℕ) (starts : List (List ℕ)) : Type 0 where
  pub each : (index : ℕ) → index < length starts →
      slice_index_or starts index [] ≡ lookup_in table index

-- ---- a bit for each glyph

-- the bit of a glyph isn't set, of those that glyphs from a first one on have
abbrev pub IsUnset : ℕ → List ℕ → ℕ → Type 0
IsUnset first heads glyph = first ≤ glyph → bit_in heads (glyph - first) ≡ 0

-- a lookup begins at no glyph whose bit isn't set
pub record AreHeads (of_gpos : Bool) (lookup : List ℕ) (first : ℕ) (heads : List ℕ) : Type 0 where
  pub out : (glyph : ℕ) → IsUnset first heads glyph →
      NoneStarts of_gpos lookup glyph 0 (subtables_in lookup)

-- a glyph has no bit of a mask, or its own bit isn't set
abbrev pub IsBare : ℕ → List ℕ → ℕ → Glyph → Type 0
IsBare first heads mask g = (bit_and g.mask mask ≡ 0) ⊎ IsUnset first heads (g.glyph_id % 65536)

-- so are the glyphs from one place on, and before another
pub record AreBare (first : ℕ) (heads : List ℕ) (mask : ℕ) (gs : Glyphs) (from end : ℕ) :
    Type 0 where
  pub each : (j : ℕ) → from ≤ j → j < end → IsBare first heads mask (glyph_at gs j)

-- these glyphs have no bit of a mask
pub record AreUnmasked (mask : ℕ) (gs : Glyphs) (from end : ℕ) : Type 0 where
  pub each : (j : ℕ) → from ≤ j → j < end → bit_and (glyph_at gs j).mask mask ≡ 0

-- a glyph has no bit of a mask, or not this number
abbrev pub IsOther : ℕ → ℕ → Glyph → Type 0
IsOther only mask g = (bit_and g.mask mask ≡ 0) ⊎ ((only == g.glyph_id % 65536) ≡ false)

-- so are the glyphs from one place on, and before another
pub record AreOthers (only mask : ℕ) (gs : Glyphs) (from end : ℕ) : Type 0 where
  pub each : (j : ℕ) → from ≤ j → j < end → IsOther only mask (glyph_at gs j)

-- a glyph has no bit of a mask, or isn't in a set
abbrev pub IsOutside : List ℕ → ℕ → Glyph → Type 0
IsOutside set mask g = (bit_and g.mask mask ≡ 0) ⊎ (coverage_in set (g.glyph_id % 65536) ≡ None)

-- so are the glyphs from one place on, and before another
pub record AreOutside (set : List ℕ) (mask : ℕ) (gs : Glyphs) (from end : ℕ) : Type 0 where
  pub each : (j : ℕ) → from ≤ j → j < end → IsOutside set mask (glyph_at gs j)

-- a glyph has no bit of a lookup's mask, or the lookup doesn't begin at the glyph
abbrev pub IsPassed : Bool → List ℕ → ℕ → Glyph → Type 0
IsPassed of_gpos lookup mask g =
    (bit_and g.mask mask ≡ 0)
    ⊎ NoneStarts of_gpos lookup (g.glyph_id % 65536) 0 (subtables_in lookup)

-- so are the glyphs from one place on, and before another
pub record ArePassed (of_gpos : Bool) (lookup : List ℕ) (mask : ℕ) (gs : Glyphs) (from end : ℕ) :
    Type 0 where
  pub each : (j : ℕ) → from ≤ j → j < end → IsPassed of_gpos lookup mask (glyph_at gs j)
