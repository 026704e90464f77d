-- Worked rows: where a lookup may begin, and the places of its bits.
use Rattle.std.specs.Prelude.{◌≡◌, ℕ, true, false, None, Some, List, [], ◌∷◌, ◌++◌, map, refl}
use Rattle.opentype_face.specs.Ranges.{bisect}
use Rattle.opentype_layout.specs.Bits.{bit_in}
use Rattle.opentype_layout.specs.Rules.{first_at}
use Rattle.opentype_layout.specs.Starts.{context_type, extension_type, has_row, place_in, starting, starts_at}
use Rattle.opentype_layout.specs.declared.grid.Grid.{Grid}

types : map extension_type (false ∷ true ∷ []) ++ map context_type (false ∷ true ∷ []) ≡ 7 ∷ 9 ∷ 5 ∷ 7 ∷ []
types = refl

-- the set is the one at byte 2, but in format 3 of contexts the one at byte 6, and of chained contexts
-- the one behind the glyphs before, here two
abbrev format_1 : List ℕ
format_1 = 0 ∷ 1 ∷ 0 ∷ 2 ∷ []

abbrev format_3 : List ℕ
format_3 = 0 ∷ 3 ∷ 0 ∷ 2 ∷ []

sets_of_format_1 : map (λ kind. starts_at false kind format_1) (1 ∷ 2 ∷ 3 ∷ 4 ∷ 5 ∷ 6 ∷ 7 ∷ 8 ∷ [])
    ≡ 2 ∷ 2 ∷ 2 ∷ 2 ∷ 2 ∷ 2 ∷ 2 ∷ 2 ∷ []
unfolding starts_at first_at
sets_of_format_1 = refl

sets_of_format_3 : map (λ kind. starts_at false kind format_3) (4 ∷ 5 ∷ 6 ∷ 7 ∷ 8 ∷ []) ≡ 2 ∷ 6 ∷ 10 ∷ 2 ∷ 2 ∷ []
unfolding starts_at first_at
sets_of_format_3 = refl

-- the contexts of GPOS are types 7 and 8
sets_in_gpos : map (λ kind. starts_at true kind format_3) (4 ∷ 5 ∷ 6 ∷ 7 ∷ 8 ∷ 9 ∷ [])
    ≡ 2 ∷ 2 ∷ 2 ∷ 6 ∷ 10 ∷ 2 ∷ []
unfolding starts_at first_at
sets_in_gpos = refl

sets_in_gpos_of_format_1 : map (λ kind. starts_at true kind format_1) (7 ∷ 8 ∷ []) ≡ 2 ∷ 2 ∷ []
unfolding starts_at first_at
sets_in_gpos_of_format_1 = refl

-- two subtables of type 1: the first for glyphs 5 and 9 (format 1), the second for glyphs 7 to 8 (2)
abbrev lookup : List ℕ
lookup = (0 ∷ 1 ∷ 0 ∷ 0 ∷ 0 ∷ 2 ∷ 0 ∷ 10 ∷ 0 ∷ 24 ∷ [])
    ++ ((0 ∷ 1 ∷ 0 ∷ 6 ∷ 0 ∷ 1 ∷ 0 ∷ 1 ∷ 0 ∷ 2 ∷ 0 ∷ 5 ∷ 0 ∷ 9 ∷ [])
    ++ (0 ∷ 1 ∷ 0 ∷ 6 ∷ 0 ∷ 1 ∷ 0 ∷ 2 ∷ 0 ∷ 1 ∷ 0 ∷ 7 ∷ 0 ∷ 8 ∷ 0 ∷ 0 ∷ []))

first_starts : map (λ glyph. starting false lookup glyph 0) (4 ∷ 5 ∷ 6 ∷ 8 ∷ 9 ∷ 10 ∷ [])
    ≡ None ∷ Some 0 ∷ None ∷ None ∷ Some 0 ∷ None ∷ []
unfolding starting starts_at bisect
first_starts = refl

second_starts : map (λ glyph. starting false lookup glyph 1) (5 ∷ 6 ∷ 7 ∷ 8 ∷ 9 ∷ [])
    ≡ None ∷ None ∷ Some 1 ∷ Some 1 ∷ None ∷ []
unfolding starting starts_at bisect
second_starts = refl

-- one subtable of an extension's type, that names a context of format 3, whose set at byte 6 has glyph
-- 7, and the one at byte 2 has glyph 5
abbrev extended : ℕ → ℕ → List ℕ
extended extension context = (0 ∷ extension ∷ 0 ∷ 0 ∷ 0 ∷ 1 ∷ 0 ∷ 8 ∷ [])
    ++ ((0 ∷ 1 ∷ 0 ∷ context ∷ 0 ∷ 0 ∷ 0 ∷ 8 ∷ [])
    ++ ((0 ∷ 3 ∷ 0 ∷ 8 ∷ 0 ∷ 0 ∷ 0 ∷ 14 ∷ []) ++ (0 ∷ 1 ∷ 0 ∷ 1 ∷ 0 ∷ 5 ∷ 0 ∷ 1 ∷ 0 ∷ 1 ∷ 0 ∷ 7 ∷ [])))

extended_starts : map (λ glyph. starting false (extended 7 5) glyph 0) (5 ∷ 7 ∷ []) ≡ None ∷ Some 0 ∷ []
unfolding starting starts_at first_at bisect
extended_starts = refl

extended_in_gpos : map (λ glyph. starting true (extended 9 7) glyph 0) (5 ∷ 7 ∷ []) ≡ None ∷ Some 0 ∷ []
unfolding starting starts_at first_at bisect
extended_in_gpos = refl

-- type 5 is no context in GPOS
other_in_gpos : map (λ glyph. starting true (extended 9 5) glyph 0) (5 ∷ 7 ∷ []) ≡ Some 0 ∷ None ∷ []
unfolding starting starts_at first_at bisect
other_in_gpos = refl

-- in GPOS marks upon bases, type 4, begin at the mark: the set at byte 12 has mark 9, and that at byte
-- 18 base 5
abbrev of_marks : List ℕ
of_marks = (0 ∷ 4 ∷ 0 ∷ 0 ∷ 0 ∷ 1 ∷ 0 ∷ 8 ∷ [])
    ++ ((0 ∷ 1 ∷ 0 ∷ 12 ∷ 0 ∷ 18 ∷ 0 ∷ 1 ∷ 0 ∷ 0 ∷ 0 ∷ 0 ∷ [])
    ++ (0 ∷ 1 ∷ 0 ∷ 1 ∷ 0 ∷ 9 ∷ 0 ∷ 1 ∷ 0 ∷ 1 ∷ 0 ∷ 5 ∷ []))

marks_start : map (λ glyph. starting true of_marks glyph 0) (5 ∷ 9 ∷ 10 ∷ []) ≡ None ∷ Some 0 ∷ None ∷ []
unfolding starting starts_at bisect
marks_start = refl

-- ---- bits

-- rows for glyphs 5 to 7, of 65 bits in two words
abbrev grid : Grid
grid = record { first = 5; rows = 3; width = 128 }

rows_there : map (λ glyph. has_row grid glyph) (0 ∷ 4 ∷ 5 ∷ 7 ∷ 8 ∷ []) ≡ false ∷ false ∷ true ∷ true ∷ false ∷ []
rows_there = refl

places : map (λ glyph. place_in grid glyph 64) (5 ∷ 6 ∷ 7 ∷ []) ≡ 64 ∷ 192 ∷ 320 ∷ []
places = refl

-- 64 bits a word, the lowest first
bits_there : map (λ k. bit_in (6 ∷ 1 ∷ []) k) (0 ∷ 1 ∷ 2 ∷ 3 ∷ 63 ∷ 64 ∷ 65 ∷ 128 ∷ []) ≡ 0 ∷ 1 ∷ 1 ∷ 0 ∷ 0 ∷ 1 ∷ 0 ∷ 0 ∷ []
bits_there = refl
