-- The subtables of pairs of a lookup of GPOS that have tables.
use Rattle.std.specs.Prelude.{ℕ, ◌<◌, ◌≡◌, List, [], length, slice_index_or}
use Rattle.opentype_face.specs.Bytes.{u16_in}
use Rattle.opentype_face.specs.Lookups.{subtable_in, type_in}
use Rattle.opentype_layout.specs.declared.pair_tables.PairHeader.{PairHeader}

-- The numbers in the header of a subtable: its format, the formats of both values, and in format 2
-- how many rows and columns the table of classes has.
abbrev pub header_in : List ℕ → PairHeader
header_in bytes = record {
  format = u16_in bytes 0;
  first_format = u16_in bytes 4;
  second_format = u16_in bytes 6;
  rows = u16_in bytes 12;
  columns = u16_in bytes 14;
}

-- each of these is the lookup's subtable with its number, and of type 2, as far as they go
pub record ArePairTables (lookup : List ℕ) (tables : List (List ℕ)) : Type 0 where
  pub each : (i : ℕ) → i < length tables → slice_index_or tables i [] ≡ subtable_in 9 lookup i
  pub pairs : (i : ℕ) → i < length tables → type_in 9 lookup i ≡ 2
