-- Worked rows: subtables of GPOS, by their bytes.
use Rattle.std.specs.Prelude.{◌≡◌, ℕ, None, Some, true, List, [], ◌∷◌, ◌++◌, map, refl}
use Rattle.opentype_face.specs.Bytes.{table_at, u16_in}
use Rattle.opentype_face.specs.Glyphs.{coverage_in}
use Rattle.opentype_face.specs.Ranges.{bisect}
use Rattle.opentype_layout.specs.PositionTables.{nth_position}
use Rattle.opentype_layout.specs.Rules.{first_at}
use Rattle.opentype_layout.specs.Starts.{first_set_in, starts_at}

-- a set of two glyphs, format 1, and one of two ranges, format 2: glyphs 5 to 7, and 9
abbrev of_glyphs : ℕ → ℕ → List ℕ
of_glyphs first second = 0 ∷ 1 ∷ 0 ∷ 2 ∷ 0 ∷ first ∷ 0 ∷ second ∷ []

abbrev of_ranges : List ℕ
of_ranges = 0 ∷ 2 ∷ 0 ∷ 2 ∷ 0 ∷ 5 ∷ 0 ∷ 7 ∷ 0 ∷ 0 ∷ 0 ∷ 9 ∷ 0 ∷ 9 ∷ 0 ∷ 3 ∷ []

-- a subtable of marks: its header, and at bytes 12 and 20 its sets of marks and of bases
abbrev marks : List ℕ
marks = (0 ∷ 1 ∷ 0 ∷ 12 ∷ 0 ∷ 20 ∷ 0 ∷ 1 ∷ 0 ∷ 0 ∷ 0 ∷ 0 ∷ []) ++ (of_glyphs 30 32 ++ of_ranges)

-- marks 30 and 32 have places 0 and 1; no neighbour has one, and no base
places_of_marks : map (coverage_in (first_set_in true 4 marks)) (29 ∷ 30 ∷ 31 ∷ 32 ∷ 33 ∷ 5 ∷ [])
    ≡ None ∷ Some 0 ∷ None ∷ Some 1 ∷ None ∷ None ∷ []
unfolding starts_at bisect
places_of_marks = refl

-- bases 5 to 7 and 9 have places 0 to 3
places_of_bases : map (coverage_in (table_at marks (u16_in marks 4))) (4 ∷ 5 ∷ 6 ∷ 7 ∷ 8 ∷ 9 ∷ 10 ∷ 30 ∷ [])
    ≡ None ∷ Some 0 ∷ Some 1 ∷ Some 2 ∷ None ∷ Some 3 ∷ None ∷ None ∷ []
unfolding bisect
places_of_bases = refl

-- a context of format 3 begins with the set of its input's first glyph: at byte 6 in type 7, behind
-- one glyph before and its own number in type 8
abbrev sets : List ℕ
sets = (0 ∷ 3 ∷ 0 ∷ 1 ∷ 0 ∷ 18 ∷ 0 ∷ 10 ∷ 0 ∷ 26 ∷ []) ++ (of_glyphs 5 9 ++ (of_glyphs 2 3 ++ of_glyphs 6 7))

places_of_contexts : map (coverage_in (first_set_in true 7 sets)) (5 ∷ 6 ∷ 7 ∷ 9 ∷ [])
    ≡ Some 0 ∷ None ∷ None ∷ Some 1 ∷ []
unfolding starts_at first_at bisect
places_of_contexts = refl

places_of_chained : map (coverage_in (first_set_in true 8 sets)) (5 ∷ 6 ∷ 7 ∷ 9 ∷ [])
    ≡ None ∷ Some 0 ∷ Some 1 ∷ None ∷ []
unfolding starts_at first_at bisect
places_of_chained = refl

-- a lookup of type 4 with two subtables, the same by way of type 9, and one of type 7, which is a
-- context in GPOS and names no other subtable
abbrev lookup : List ℕ
lookup = (0 ∷ 4 ∷ 0 ∷ 0 ∷ 0 ∷ 2 ∷ 0 ∷ 46 ∷ 0 ∷ 10 ∷ []) ++ (marks ++ of_glyphs 1 2)

abbrev extended : List ℕ
extended = (0 ∷ 9 ∷ 0 ∷ 0 ∷ 0 ∷ 1 ∷ 0 ∷ 8 ∷ []) ++ ((0 ∷ 1 ∷ 0 ∷ 4 ∷ 0 ∷ 0 ∷ 0 ∷ 8 ∷ []) ++ marks)

abbrev context : List ℕ
context = (0 ∷ 7 ∷ 0 ∷ 0 ∷ 0 ∷ 1 ∷ 0 ∷ 8 ∷ []) ++ sets

subtables : nth_position lookup 0 ∷ nth_position lookup 1 ∷ nth_position extended 0 ∷ nth_position context 0 ∷ []
    ≡ record { kind = 4; bytes = of_glyphs 1 2 } ∷ record { kind = 4; bytes = marks ++ of_glyphs 1 2 }
    ∷ record { kind = 4; bytes = marks } ∷ record { kind = 7; bytes = sets } ∷ []
subtables = refl
