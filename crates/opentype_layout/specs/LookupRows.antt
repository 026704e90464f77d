-- For each glyph a row of bits: the lookups of GSUB, or of GPOS, that may begin at the glyph.
use Rattle.std.specs.Prelude.{ℕ, ◌+◌, ◌*◌, ◌%◌, ◌<◌, ◌≡◌, Bool, List, [], ◌∷◌, length, slice_index_or}
use Rattle.shapers_buffer.specs.Glyphs.{Glyphs}
use Rattle.opentype_face.specs.Lookups.{lookup_in, subtables_in}
use Rattle.opentype_layout.specs.Bits.{bit_in}
use Rattle.opentype_layout.specs.Starts.{NoneStarts}
use Rattle.opentype_layout.specs.Text.{glyph_at}
use Rattle.opentype_layout.specs.declared.lookup_rows.LookupBits.{LookupBits}

-- the bit of a lookup in the row of a glyph: each row has bits for 128 lookups
abbrev pub row_bit : List ℕ → ℕ → ℕ → ℕ
row_bit words glyph index = bit_in words (glyph * 128 + index)

-- the same in a row
abbrev pub lookup_bit : LookupBits → ℕ → ℕ
lookup_bit bits index = bit_in (bits.low ∷ bits.high ∷ []) index

-- a lookup of GSUB or of GPOS, by its table, doesn't begin at a glyph
abbrev pub BeginsNot : Bool → List ℕ → ℕ → Type 0
BeginsNot of_gpos lookup glyph = NoneStarts of_gpos lookup glyph 0 (subtables_in lookup)

-- each of the first lookups, up to one, begins at no glyph in whose row its bit isn't set
pub record AreMarked (of_gpos : Bool) (lookups : List (List ℕ)) (words : List ℕ) (end : ℕ) :
    Type 0 where
  pub out : (index glyph : ℕ) → index < end → row_bit words glyph index ≡ 0 →
      BeginsNot of_gpos (slice_index_or lookups index []) glyph

-- so each of the first 128 lookups of a table
pub record AreRows (of_gpos : Bool) (table words : List ℕ) : Type 0 where
  pub out : (index glyph : ℕ) → index < 128 → row_bit words glyph index ≡ 0 →
      BeginsNot of_gpos (lookup_in table index) glyph

-- a bit that isn't set among these isn't set in the rows of the first glyphs of a text, up to one
pub record AreUnset (words : List ℕ) (bits : LookupBits) (gs : Glyphs) (end : ℕ) : Type 0 where
  pub each : (index j : ℕ) → index < 128 → j < end → lookup_bit bits index ≡ 0 →
      row_bit words ((glyph_at gs j).glyph_id % 65536) index ≡ 0

-- each of the first 128 lookups whose bit isn't set begins at no glyph of a text
pub record AreAbsent (of_gpos : Bool) (table : List ℕ) (bits : LookupBits) (gs : Glyphs) :
    Type 0 where
  pub each : (index j : ℕ) → index < 128 → j < length gs → lookup_bit bits index ≡ 0 →
      BeginsNot of_gpos (lookup_in table index) ((glyph_at gs j).glyph_id % 65536)
