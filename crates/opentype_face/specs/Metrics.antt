-- The numbers of a face and of its glyphs: head, maxp, hhea and hmtx, vhea and vmtx, VORG, OS/2.
use Rattle.std.specs.Prelude.{ℕ, ◌+◌, ◌-◌, ◌*◌, ◌/◌, ◌%◌, ◌==◌, ◌&&◌, not, Bool, nat_lt, nat_le, ℤ, pos, neg_ℤ, nat_abs, List, length, Option, None, Some, if◌then◌else◌}
use Rattle.std.specs.Option.{option_map, unwrap_or}
use Rattle.opentype_face.specs.Bytes.{capped_in, i16_in, u16_in}
use Rattle.opentype_face.specs.Glyphs.{ranges_in}

-- head: units of an em; HarfBuzz takes 1000 where they aren't from 16 to 16384
abbrev pub units_in : List ℕ → ℕ
units_in head =
    let units = u16_in head 18 in
    if nat_le 16 units && nat_le units 16384 then units else 1000

-- hhea and hmtx, or vhea and vmtx: how many long metrics there are, of those that the table has
-- room for
abbrev pub long_metrics_in : List ℕ → List ℕ → ℕ
long_metrics_in header metrics = capped_in (u16_in header 34) (length metrics / 4)

-- the advance of a glyph: its own, or that of the last long metric; 0 for what is no glyph of the
-- font's `count`. None where the font has no metrics.
abbrev pub advance_in : List ℕ → List ℕ → ℕ → ℕ → Option ℕ
advance_in header metrics count glyph =
    let long = long_metrics_in header metrics in
    if long == 0 then None
    else (if nat_lt glyph long then Some (u16_in metrics (glyph * 4))
    else (if nat_lt glyph count then Some (u16_in metrics ((long - 1) * 4)) else Some 0))

-- the bearing of a glyph, on the left or on top: of a long metric, or of those behind them; else 0
abbrev pub bearing_in : List ℕ → List ℕ → ℕ → ℕ → ℤ
bearing_in header metrics count glyph =
    let long = long_metrics_in header metrics in
    if nat_lt glyph long then i16_in metrics (glyph * 4 + 2)
    else (if not (long == 0) && nat_lt glyph count then i16_in metrics (long * 4 + (glyph - long) *
    2)
    else pos 0)

-- VORG: the height of a glyph's vertical origin; none without the table
abbrev pub origin_in : List ℕ → ℕ → Option ℤ
origin_in vorg glyph =
    if u16_in vorg 0 == 1 then
    Some (unwrap_or (option_map (λ i. i16_in vorg (10 + i * 4)) (ranges_in vorg 8 8 4 (u16_in vorg
    6) glyph))
    (i16_in vorg 4))
    else None

-- OS/2: whether the typographic heights are those of the lines: bit 7 of fsSelection, in a table
-- that isn't empty
abbrev pub has_os2 : List ℕ → Bool
has_os2 os2 = not (u16_in os2 4 == 0 && u16_in os2 6 == 0 && u16_in os2 64 == 0 && u16_in os2 66 ==
    0)

abbrev pub uses_typo_in : List ℕ → Bool
uses_typo_in os2 = u16_in os2 62 / 128 % 2 == 1 && has_os2 os2

-- the heights above and below the base line, as HarfBuzz has them: the first without a sign, the
-- second below 0. Where the font has none, four fifths of an em, and the rest of it.
abbrev pub ascender_in : List ℕ → List ℕ → ℕ → ℤ
ascender_in hhea os2 units =
    if uses_typo_in os2 then pos (nat_abs (i16_in os2 68))
    else (if u16_in hhea 0 == 0 then pos (units * 4 / 5) else pos (nat_abs (i16_in hhea 4)))

abbrev pub descender_in : List ℕ → List ℕ → ℕ → ℤ
descender_in hhea os2 units =
    if uses_typo_in os2 then neg_ℤ (pos (nat_abs (i16_in os2 70)))
    else (if u16_in hhea 0 == 0 then neg_ℤ (pos (units - units * 4 / 5)) else neg_ℤ (pos (nat_abs
    (i16_in hhea 6))))

-- OS/2 of version 0: the page of an old font of one script, the high byte of fsSelection
abbrev pub font_page_in : List ℕ → ℕ
font_page_in os2 = if u16_in os2 0 == 0 then u16_in os2 62 / 256 else 0
