-- cmap: which subtable a font's characters are looked up in, and how.
use Rattle.std.specs.Prelude.{ℕ, ◌+◌, ◌*◌, ◌/◌, ◌==◌, nat_lt, List, [], length, Option, None, if◌then◌else◌}
use Rattle.std.specs.Option.{option_map, unwrap_or}
use Rattle.opentype_face.specs.Bytes.{table_at, u16_in, u32_in, capped_in}
use Rattle.opentype_face.specs.Cmap.{cmap_in}
use Rattle.opentype_face.specs.Firsts.{or_else}
use Rattle.opentype_face.specs.Glyphs.{ranges_in}
use Rattle.opentype_face.specs.Ranges.{bisect}
use Rattle.opentype_face.specs.declared.characters.Encoding.{Encoding}
use Rattle.opentype_face.specs.declared.characters.Encoding.TheVariants.{Unicode, Symbol, SimplifiedArabic, TraditionalArabic, MacRoman, Mac}
use Rattle.opentype_face.specs.declared.legacy_tables.TheConstants.{MAC_ROMAN, SIMPLIFIED_ARABIC, TRADITIONAL_ARABIC}

-- how many encoding records there are
abbrev pub records_in : List ℕ → ℕ
records_in cmap = if u16_in cmap 0 == 0 then u16_in cmap 2 else 0

-- the subtable of a record, nothing where there is none
abbrev pub of_record : List ℕ → Option ℕ → List ℕ
of_record cmap found =
    unwrap_or (option_map (λ i. table_at cmap (u32_in cmap (8 + i * 8))) found) []

-- the subtable of a platform and an encoding of it: of 65536 times the one and the other
abbrev pub subtable_of : List ℕ → ℕ → List ℕ
subtable_of cmap key = of_record cmap (bisect (records_in cmap) (λ i. u32_in cmap (4 + i * 8))
    (λ i. u32_in cmap (4 + i * 8)) key 0 (records_in cmap))

-- that of a platform, whatever its encoding
abbrev pub subtable_of_platform : List ℕ → ℕ → List ℕ
subtable_of_platform cmap platform = of_record cmap (ranges_in cmap 4 4 8 (records_in cmap)
    platform)

-- one subtable, or where that is empty, another
abbrev pub or_table : List ℕ → List ℕ → List ℕ
or_table table other = if length table == 0 then other else table

-- Unicode's: all of it 3/10, 0/6, 0/4, the first 65536 characters 3/1, 0/3, 0/2, 0/1, 0/0
abbrev pub unicode_in : List ℕ → List ℕ
unicode_in cmap =
    or_table (subtable_of cmap 0x3000A) (or_table (subtable_of cmap 6) (or_table (subtable_of cmap
    4)
    (or_table (subtable_of cmap 0x30001) (or_table (subtable_of cmap 3) (or_table (subtable_of cmap
    2)
    (or_table (subtable_of cmap 1) (subtable_of cmap 0)))))))

-- how the characters of a symbol font are found, by its page in OS/2
abbrev pub symbol_by_page : ℕ → Encoding
symbol_by_page page =
    if page == 0 then Symbol
    else (if page == 0xB2 then SimplifiedArabic else (if page == 0xB3 then TraditionalArabic else
    Unicode))

-- the choice, in HarfBuzz's order: symbols (3/0), Unicode, MacRoman (1/0), another of the Macintosh
abbrev pub chosen_table : List ℕ → List ℕ
chosen_table cmap =
    or_table (subtable_of cmap 0x30000) (or_table (unicode_in cmap)
    (or_table (subtable_of cmap 0x10000) (subtable_of_platform cmap 1)))

abbrev pub chosen_encoding : List ℕ → ℕ → Encoding
chosen_encoding cmap page =
    if length (subtable_of cmap 0x30000) == 0 then
    (if length (unicode_in cmap) == 0 then
    (if length (subtable_of cmap 0x10000) == 0 then Mac else MacRoman)
    else Unicode)
    else symbol_by_page page

-- the code of a character in one of these tables, 0 where it has none
abbrev pub code_in : List ℕ → ℕ → ℕ
code_in table c =
    if nat_lt c 65536 then
    unwrap_or (option_map (λ i. u16_in table (2 + i * 4)) (ranges_in table 0 0 4 (capped_in 65536
    (length table / 4)) c)) 0
    else 0

-- the glyph of a character's code in such a table
abbrev pub by_code : List ℕ → ℕ → Option ℕ
by_code subtable code = if code == 0 then None else cmap_in subtable code

-- only ASCII's characters
abbrev pub of_ascii : List ℕ → ℕ → Option ℕ
of_ascii subtable c = if nat_lt c 128 then cmap_in subtable c else None

-- the glyph of a character
abbrev pub nominal_in : Encoding → List ℕ → ℕ → Option ℕ
nominal_in Unicode subtable c = cmap_in subtable c
nominal_in Symbol subtable c =
    or_else (cmap_in subtable c) (if nat_lt c 256 then cmap_in subtable (0xF000 + c) else None)
nominal_in SimplifiedArabic subtable c = or_else (cmap_in subtable c) (by_code subtable (code_in
    SIMPLIFIED_ARABIC c))
nominal_in TraditionalArabic subtable c = or_else (cmap_in subtable c) (by_code subtable (code_in
    TRADITIONAL_ARABIC c))
nominal_in MacRoman subtable c = or_else (of_ascii subtable c) (by_code subtable (code_in MAC_ROMAN
    c))
nominal_in Mac subtable c = of_ascii subtable c
