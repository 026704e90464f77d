-- post: the names of glyphs.
use Rattle.std.specs.Prelude.{ℕ, zero, suc, ◌+◌, ◌-◌, ◌*◌, ◌==◌, nat_lt, List, [], length, slice_index, if◌then◌else◌}
use Rattle.opentype_face.specs.Bytes.{stretch_bytes, u16_in, u32_in}
use Rattle.opentype_face.specs.declared.mac_names.TheConstants.{MAC_NAMES}

-- A string is a byte that says how long it is, and so many bytes. Where string number n of those
-- that begin at a place begins:
unfoldable pub string_start : ℕ → List ℕ → ℕ → ℕ
string_start zero bytes at = at
string_start (suc n) bytes at = string_start n bytes (at + slice_index bytes at + 1)

-- the string that begins at a place, nothing where the bytes end before it does
abbrev pub string_in : List ℕ → ℕ → List ℕ
string_in bytes at =
    if nat_lt (at + slice_index bytes at) (length bytes)
    then stretch_bytes bytes (at + 1) (slice_index bytes at) else []

abbrev pub nth_string : ℕ → List ℕ → ℕ → List ℕ
nth_string n bytes start = string_in bytes (string_start n bytes start)

-- the name of number i: one of the Macintosh's 258, or one of the table's own
abbrev pub named : List ℕ → ℕ → List ℕ
named post i =
    if nat_lt i 258 then nth_string i MAC_NAMES 0
    else nth_string (i - 258) post (34 + u16_in post 32 * 2)

-- the name of a glyph: in format 1 it has the number of the glyph, in format 2 the one that stands
-- there
abbrev pub name_in : List ℕ → ℕ → List ℕ
name_in post glyph =
    if u32_in post 0 == 0x10000 then (if nat_lt glyph 258 then nth_string glyph MAC_NAMES 0 else [])
    else (if u32_in post 0 == 0x20000 then
    (if nat_lt glyph (u16_in post 32) then named post (u16_in post (34 + glyph * 2)) else [])
    else [])
