-- Worked rows: the header of a subtable of pairs.
use Rattle.std.specs.Prelude.{◌≡◌, ℕ, [], ◌∷◌, refl}
use Rattle.opentype_layout.specs.PairTables.{header_in}
use Rattle.opentype_layout.specs.declared.pair_tables.PairHeader.{PairHeader}

abbrev header : ℕ → ℕ → ℕ → ℕ → ℕ → PairHeader
header format first second rows columns = record {
  format = format;
  first_format = first;
  second_format = second;
  rows = rows;
  columns = columns;
}

-- format 2, with an advance for the first glyph, and 3 rows of 258 columns; each number has two bytes
by_classes : header_in (0 ∷ 2 ∷ 0 ∷ 20 ∷ 0 ∷ 4 ∷ 1 ∷ 8 ∷ 0 ∷ 26 ∷ 0 ∷ 34 ∷ 0 ∷ 3 ∷ 1 ∷ 2 ∷ []) ≡ header 2 4 264 3 258
by_classes = refl

-- what isn't there is 0: all of the header, and what stands behind the formats
empty : header_in [] ≡ header 0 0 0 0 0
empty = refl

cut : header_in (0 ∷ 1 ∷ 0 ∷ 20 ∷ 0 ∷ 4 ∷ 0 ∷ 5 ∷ []) ≡ header 1 4 5 0 0
cut = refl
