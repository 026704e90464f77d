-- The glyphs of characters in tables: pages of 256 characters, and where each page begins.
use Rattle.std.specs.Prelude.{ℕ, ◌+◌, ◌*◌, ◌/◌, ◌%◌, ◌<◌, ◌≡◌, List, length, slice_index}
use Rattle.opentype_face.specs.Characters.{nominal_in}
use Rattle.opentype_face.specs.Cmap.{glyph_unless_zero}
use Rattle.opentype_face.specs.declared.characters.Encoding.{Encoding}

-- where the glyph of a character stands: in the page that its own 256 characters have
abbrev pub character_place : List ℕ → ℕ → ℕ
character_place pages c = slice_index pages (c / 256) * 256 + c % 256

-- the tables say of each character that they have what the subtable says of it
pub record TellsCharacters (encoding : Encoding) (subtable pages glyphs : List ℕ) : Type 0 where
  pub same : (c : ℕ) → c / 256 < length pages → character_place pages c < length glyphs →
      glyph_unless_zero (slice_index glyphs (character_place pages c))
      ≡ nominal_in encoding subtable c

-- the glyphs of so many characters from one on follow in a table upon what it had before
pub record AreAppended (encoding : Encoding) (subtable old : List ℕ) (first count : ℕ)
    (new : List ℕ) : Type 0 where
  pub len : length new ≡ length old + count
  pub kept : (i : ℕ) → i < length old → slice_index new i ≡ slice_index old i
  pub told : (k : ℕ) → k < count → glyph_unless_zero (slice_index new (length old + k))
      ≡ nominal_in encoding subtable (first + k)
