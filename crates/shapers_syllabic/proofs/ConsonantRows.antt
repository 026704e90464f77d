-- Which glyphs are consonants, over all categories, computed.
use Rattle.std.specs.Prelude.{◌≡◌, ℕ, false, [], ◌∷◌, refl}
use Rattle.std.specs.List.{filter, list_any, range_with_len}
use Rattle.shapers_buffer.specs.Glyphs.{Glyph}
use Rattle.shapers_buffer.specs.Glyph.{default_glyph}
use Rattle.shapers_syllabic.specs.Consonants.{consonants, is_consonant}

-- a glyph of a category, with these marks
abbrev glyph_with : ℕ → ℕ → Glyph
glyph_with marks c = record default_glyph { category = c; glyph_props = record { 0 = marks } }

-- the categories, of all 0 to 41, and of the others of a byte, that are consonants: C V PLACEHOLDER
-- DOTTEDCIRCLE Ra CM CS
with_no_marks : filter (λ c. is_consonant (glyph_with 0 c)) (range_with_len 0 256) ≡ 1 ∷ 2 ∷ 10 ∷ 11 ∷ 15 ∷ 16 ∷ 18 ∷ []
with_no_marks = refl

-- other marks than the one of a ligature don't matter
with_other_marks : filter (λ c. is_consonant (glyph_with 0xFFDF c)) (range_with_len 0 42)
    ≡ 1 ∷ 2 ∷ 10 ∷ 11 ∷ 15 ∷ 16 ∷ 18 ∷ []
with_other_marks = refl

-- what a lookup put in for several is none
ligated : list_any (λ c. is_consonant (glyph_with 0x20 c)) (range_with_len 0 42) ≡ false
ligated = refl

-- the set, by the numbers
the_set : consonants ≡ 1 ∷ 18 ∷ 15 ∷ 16 ∷ 2 ∷ 10 ∷ 11 ∷ []
the_set = refl
