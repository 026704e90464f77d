-- The widths of spaces that the font lacks, for which another glyph is drawn (HarfBuzz's
-- _hb_ot_shape_fallback_spaces). Normalization leaves the kind of each in the high byte of its
-- properties.
use Rattle.std.specs.Prelude.{ℕ, ◌+◌, ◌*◌, ◌/◌, ◌==◌, nat_le, ℤ, pos, int_div, Bool, not, ◌&&◌, ◌||◌, List, [], ◌∷◌, if◌then◌else◌}
use Rattle.std.specs.Option.{option_map_or}
use Rattle.shapers_base.specs.Font.{Font}
use Rattle.shapers_buffer.specs.declared.buffer.glyph.GlyphPosition.{GlyphPosition}
use Rattle.shapers_buffer.specs.Glyphs.{Glyph}
use Rattle.shapers_buffer.specs.Properties.{is_ligated, general_category, high_byte}
use Rattle.shapers_normal.specs.Decomposition.{is_space_separator}
use Rattle.shapers_position.specs.Metrics.{Metrics, along_line, line_advance}

-- the advance, along the line, of the first of these characters that the font has, or else this one
abbrev pub first_advance : Font → Metrics → Bool → List ℕ → ℤ → ℤ
first_advance font metrics horizontal [] else_advance = else_advance
first_advance font metrics horizontal (c ∷ cs) else_advance =
    option_map_or (line_advance font metrics horizontal) (font.nominal c)
    (first_advance font metrics horizontal cs else_advance)

-- the digits, and the stops that a space of punctuation is as wide as
abbrev pub digits : List ℕ
digits =
    0x30 ∷ 0x31 ∷ 0x32 ∷ 0x33 ∷ 0x34 ∷ 0x35 ∷ 0x36 ∷ 0x37 ∷ 0x38 ∷ 0x39 ∷ []

abbrev pub full_stops : List ℕ
full_stops = 0x2E ∷ 0x2C ∷ []

-- kinds that are a part of an em: the number says which
abbrev pub is_part_of_em : ℕ → Bool
is_part_of_em kind = nat_le 1 kind && nat_le kind 6 || kind == 16

-- that part, to the nearest unit
abbrev pub part_of_em : ℕ → ℕ → ℕ
part_of_em em kind = (em + kind / 2) / kind

-- The width of a space of a kind, by HarfBuzz's numbers, in a font with these metrics, where its
-- glyph has this advance along the line: a part of an em, four eighteenths of one (17), a digit's
-- (19), a stop's (20), half of its glyph's (21). The others are as wide as their glyph.
abbrev pub space_width : Font → Metrics → Bool → ℕ → ℤ → ℤ
space_width font metrics horizontal kind advance =
    if is_part_of_em kind then along_line horizontal (part_of_em metrics.em kind)
    else if kind == 17 then along_line horizontal (metrics.em * 4 / 18)
    else if kind == 19 then first_advance font metrics horizontal digits advance
    else if kind == 20 then first_advance font metrics horizontal full_stops advance
    else if kind == 21 then int_div advance (pos 2) else advance

-- a space that no lookup put in for several glyphs
abbrev pub is_space_glyph : Glyph → Bool
is_space_glyph g =
    is_space_separator (general_category g.unicode_props) && not (is_ligated g.glyph_props)

-- a glyph's position, with that width along the line if it is such a space
abbrev pub space_placed : Font → Metrics → Bool → Glyph → GlyphPosition → GlyphPosition
space_placed font metrics horizontal g p =
    let width = space_width font metrics horizontal (high_byte g.unicode_props) in
    if not (is_space_glyph g) then p
    else if horizontal then record p { x_advance = width p.x_advance }
    else record p { y_advance = width p.y_advance }
