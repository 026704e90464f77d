-- The faces of a font file and the tables of a face.
use Rattle.std.specs.Prelude.{ℕ, ◌+◌, ◌*◌, ◌/◌, ◌==◌, ◌||◌, Bool, nat_lt, List, [], length, Option, None, Some, Result, Ok, Err, if◌then◌else◌}
use Rattle.std.specs.Option.{option_map, unwrap_or}
use Rattle.opentype_face.specs.Bytes.{capped_in, table_at, stretch_bytes, u16_in, u32_in}
use Rattle.opentype_face.specs.Firsts.{first_from}
use Rattle.opentype_face.specs.Ranges.{bisect}
use Rattle.opentype_face.specs.declared.directory.FaceError.{FaceError}
use Rattle.opentype_face.specs.declared.directory.FaceError.TheVariants.{UnknownMagic, IndexOutOfRange}

-- the first four bytes of a file with one face: 1.0, OTTO, true, typ1
abbrev pub is_single : ℕ → Bool
is_single magic = magic == 0x00010000 || magic == 0x4F54544F || magic == 0x74727565 || magic ==
    0x74797031

-- those of a collection: ttcf, of version 1 or 2
abbrev pub is_collection : List ℕ → Bool
is_collection bytes = u32_in bytes 0 == 0x74746366

-- OpenType, TTC header: how many faces a file has
abbrev pub face_count_in : List ℕ → ℕ
face_count_in bytes =
    if is_single (u32_in bytes 0) then 1
    else (if is_collection bytes then
    (if u16_in bytes 4 == 1 || u16_in bytes 4 == 2 then capped_in (u32_in bytes 8) (length bytes /
    4) else 0)
    else 0)

-- the directory of a face: of a single one, the file itself
abbrev pub directory_in : List ℕ → ℕ → Result (List ℕ) FaceError
directory_in bytes index =
    if is_single (u32_in bytes 0) then (if index == 0 then Ok bytes else Err IndexOutOfRange)
    else (if is_collection bytes then
    (if nat_lt index (face_count_in bytes) then Ok (table_at bytes (u32_in bytes (12 + index * 4)))
    else Err IndexOutOfRange)
    else Err UnknownMagic)

-- a record, if it has a tag
abbrev pub with_tag : List ℕ → ℕ → ℕ → Option ℕ
with_tag directory tag i = if u32_in directory (12 + i * 16) == tag then Some i else None

-- the record of a table: the first with its tag, or where there are 16 records and more, the one
-- that a search by halves comes to
abbrev pub record_in : List ℕ → ℕ → Option ℕ
record_in directory tag =
    let count = capped_in (u16_in directory 4) (length directory / 16) in
    if nat_lt count 16 then
    first_from count (with_tag directory tag) 0
    else bisect count (λ i. u32_in directory (12 + i * 16)) (λ i. u32_in directory (12 + i * 16))
    tag 0 count

-- a table, as far as the file has it; nothing where there is none
abbrev pub table_in : List ℕ → List ℕ → ℕ → List ℕ
table_in bytes directory tag =
    unwrap_or (option_map (λ i.
    stretch_bytes bytes (u32_in directory (20 + i * 16)) (u32_in directory (24 + i * 16)))
    (record_in directory tag)) []
