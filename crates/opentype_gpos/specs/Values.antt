-- What GPOS adds to positions: values of glyphs and of pairs.
use Rattle.std.specs.Prelude.{ℕ, ℤ, pos, ◌+◌, ◌*◌, ◌/◌, ◌%◌, ◌==◌, ◌-ℤ◌, nat_lt, List, Option, None, Some, if◌then◌else◌}
use Rattle.opentype_face.specs.Bytes.{u16_in, table_at}
use Rattle.opentype_face.specs.Glyphs.{class_in, coverage_in, ranges_in}
use Rattle.opentype_gpos.specs.declared.values.Value.{Value}

-- a number of two bytes with its sign
abbrev pub signed_in : List ℕ → ℕ → ℤ
signed_in bytes at =
    let n = u16_in bytes at in if nat_lt n 32768 then pos n else pos n -ℤ pos 65536

-- how many bytes the values of a format take, of its eight bits
abbrev pub bit_of : ℕ → ℕ → ℕ
bit_of format bit = format / bit % 2

abbrev pub size_of : ℕ → ℕ
size_of format = 2 * (bit_of format 1 + bit_of format 2 + bit_of format 4 + bit_of format 8
    + bit_of format 16 + bit_of format 32 + bit_of format 64 + bit_of format 128)

abbrev pub field_in : List ℕ → ℕ → ℕ → ℕ → ℤ
field_in bytes at format bit = if bit_of format bit == 0 then pos 0 else signed_in bytes at

abbrev pub value_in : List ℕ → ℕ → ℕ → Value
value_in bytes at format =
    let two = at + 2 * bit_of format 1 in
    let three = two + 2 * bit_of format 2 in
    let four = three + 2 * bit_of format 4 in
    record {
      x_placement = field_in bytes at format 1;
      y_placement = field_in bytes two format 2;
      x_advance = field_in bytes three format 4;
      y_advance = field_in bytes four format 8;
    }

-- type 1: where the value of a glyph stands
abbrev pub single_place : List ℕ → Option ℕ → Option ℕ
single_place bytes None = None
single_place bytes (Some i) =
    if u16_in bytes 0 == 1 then Some 6
    else (if u16_in bytes 0 == 2 then
    (if nat_lt i (u16_in bytes 6) then Some (8 + i * size_of (u16_in bytes 4)) else None)
    else None)

abbrev pub single_in : List ℕ → ℕ → Option ℕ
single_in bytes glyph = single_place bytes (coverage_in (table_at bytes (u16_in bytes 2)) glyph)

-- type 2: where the values of a pair stand, from the start of the subtable: behind the second
-- glyph's number, in the set of the first one
abbrev pub pair_of : ℕ → ℕ → Option ℕ → Option ℕ
pair_of set size None = None
pair_of set size (Some k) = Some (set + 4 + k * size)

-- or in a table of their classes, if it has a row and a column for them
abbrev pub class_pair : List ℕ → ℕ → ℕ → Option ℕ
class_pair bytes first second =
    let size = size_of (u16_in bytes 4) + size_of (u16_in bytes 6) in
    let row = class_in (table_at bytes (u16_in bytes 8)) first in
    let column = class_in (table_at bytes (u16_in bytes 10)) second in
    if nat_lt row (u16_in bytes 12) then
    (if nat_lt column (u16_in bytes 14) then
    Some (16 + (row * u16_in bytes 14 + column) * size) else None)
    else None

abbrev pub pair_place : List ℕ → ℕ → ℕ → Option ℕ → Option ℕ
pair_place bytes first second None = None
pair_place bytes first second (Some i) =
    let size = size_of (u16_in bytes 4) + size_of (u16_in bytes 6) in
    if u16_in bytes 0 == 1 then
    (if nat_lt i (u16_in bytes 8) then
    (let offset = u16_in bytes (10 + i * 2) in
    let set = table_at bytes offset in
    pair_of offset (size + 2) (ranges_in set 2 2 (size + 2) (u16_in set 0) second))
    else None)
    else (if u16_in bytes 0 == 2 then class_pair bytes first second else None)

abbrev pub pair_in : List ℕ → ℕ → ℕ → Option ℕ
pair_in bytes first second =
    pair_place bytes first second (coverage_in (table_at bytes (u16_in bytes 2)) first)
