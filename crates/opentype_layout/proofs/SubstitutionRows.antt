-- Worked rows: subtables of GSUB, and the places of glyphs in the sets that they begin with.
use Rattle.std.specs.Prelude.{◌≡◌, ℕ, false, true, None, Some, List, [], ◌∷◌, ◌++◌, map, refl}
use Rattle.opentype_face.specs.Ranges.{bisect}
use Rattle.opentype_layout.specs.Rules.{first_at, start_at}
use Rattle.opentype_layout.specs.Starts.{starts_at}
use Rattle.opentype_layout.specs.SubstitutionTables.{first_place, no_subtable, nth_subtable}

-- a set of two glyphs, format 1
abbrev set_of : ℕ → ℕ → List ℕ
set_of first second = 0 ∷ 1 ∷ 0 ∷ 2 ∷ 0 ∷ first ∷ 0 ∷ second ∷ []

-- a subtable of format 1: its set at byte 6 has glyphs 5 and 9
abbrev plain : List ℕ
plain = (0 ∷ 1 ∷ 0 ∷ 6 ∷ 0 ∷ 1 ∷ []) ++ set_of 5 9

-- one of format 3: byte 6 has the offset of the first set of a context, with glyphs 5 and 9, and byte 8
-- that of a chained context with one glyph before, with glyphs 6 and 7
abbrev sets : List ℕ
sets = (0 ∷ 3 ∷ 0 ∷ 1 ∷ 0 ∷ 18 ∷ 0 ∷ 10 ∷ 0 ∷ 26 ∷ []) ++ (set_of 5 9 ++ (set_of 2 3 ++ set_of 6 7))

places_of_plain : map (λ glyph. first_place (record { kind = 1; bytes = plain }) glyph) (4 ∷ 5 ∷ 6 ∷ 9 ∷ [])
    ≡ None ∷ Some 0 ∷ None ∷ Some 1 ∷ []
unfolding starts_at bisect
places_of_plain = refl

places_of_chained : map (λ glyph. first_place (record { kind = 6; bytes = sets }) glyph) (5 ∷ 6 ∷ 7 ∷ 9 ∷ [])
    ≡ None ∷ Some 0 ∷ Some 1 ∷ None ∷ []
unfolding starts_at first_at bisect
places_of_chained = refl

places_of_context : map (λ glyph. first_place (record { kind = 5; bytes = sets }) glyph) (5 ∷ 6 ∷ 7 ∷ 9 ∷ [])
    ≡ Some 0 ∷ None ∷ None ∷ Some 1 ∷ []
unfolding starts_at first_at bisect
places_of_context = refl

-- contexts of format 1 begin with the set at byte 2, those of format 3 with the first set of their input
starts_of_contexts : start_at false plain ∷ start_at true plain ∷ start_at false sets ∷ start_at true sets ∷ []
    ≡ 2 ∷ 2 ∷ 6 ∷ 8 ∷ []
unfolding first_at
starts_of_contexts = refl

-- a lookup of type 4, and the same by way of type 7
abbrev lookup : List ℕ
lookup = (0 ∷ 4 ∷ 0 ∷ 0 ∷ 0 ∷ 1 ∷ 0 ∷ 8 ∷ []) ++ plain

abbrev extended : List ℕ
extended = (0 ∷ 7 ∷ 0 ∷ 0 ∷ 0 ∷ 1 ∷ 0 ∷ 8 ∷ []) ++ ((0 ∷ 1 ∷ 0 ∷ 4 ∷ 0 ∷ 0 ∷ 0 ∷ 8 ∷ []) ++ plain)

first_of_lookup : nth_subtable lookup 0 ∷ nth_subtable extended 0 ∷ no_subtable ∷ []
    ≡ record { kind = 4; bytes = plain } ∷ record { kind = 4; bytes = plain } ∷ record { kind = 0; bytes = [] } ∷ []
first_of_lookup = refl
