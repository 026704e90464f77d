-- cmap format 14: the glyph of a character with a selector behind it.
use Rattle.std.specs.Prelude.{ℕ, ◌+◌, ◌*◌, ◌/◌, ◌==◌, List, length, slice_index, Option, is_some, if◌then◌else◌}
use Rattle.std.specs.Option.{option_map, unwrap_or}
use Rattle.opentype_face.specs.Bytes.{capped_in, table_at, u16_in, u24_in, u32_in}
use Rattle.opentype_face.specs.Ranges.{bisect}
use Rattle.opentype_face.specs.declared.variants.GlyphVariant.{GlyphVariant}
use Rattle.opentype_face.specs.declared.variants.GlyphVariant.TheVariants.{NotFound, Found, UseDefault}

-- records in order of a number of three bytes: the one with this number
abbrev pub record24_in : List ℕ → ℕ → ℕ → ℕ → ℕ → Option ℕ
record24_in bytes first size count number =
    bisect count (λ i. u24_in bytes (first + i * size)) (λ i. u24_in bytes (first + i * size))
    number 0 count

-- the default characters of a selector, in ranges of a first one and how many follow it
abbrev pub default_range_in : List ℕ → ℕ → Option ℕ
default_range_in bytes c =
    let count = capped_in (u32_in bytes 0) (length bytes / 4) in
    bisect count (λ i. u24_in bytes (4 + i * 4))
    (λ i. u24_in bytes (4 + i * 4) + slice_index bytes (7 + i * 4)) c 0 count

-- the glyph of another character of it, 0 where there is none
abbrev pub mapped_in : List ℕ → ℕ → ℕ
mapped_in bytes c =
    unwrap_or (option_map (λ i. u16_in bytes (7 + i * 5))
    (record24_in bytes 4 5 (capped_in (u32_in bytes 0) (length bytes / 5)) c)) 0

-- a selector's record: what it says of a character
abbrev pub in_record : List ℕ → ℕ → ℕ → GlyphVariant
in_record bytes c i =
    let glyph = mapped_in (table_at bytes (u32_in bytes (17 + i * 11))) c in
    if is_some (default_range_in (table_at bytes (u32_in bytes (13 + i * 11))) c) then UseDefault
    else (if glyph == 0 then NotFound else Found glyph)

abbrev pub variant_in : List ℕ → ℕ → ℕ → GlyphVariant
variant_in bytes c selector =
    if u16_in bytes 0 == 14 then
    unwrap_or (option_map (in_record bytes c)
    (record24_in bytes 10 11 (capped_in (u32_in bytes 6) (length bytes / 11)) selector)) NotFound
    else NotFound
