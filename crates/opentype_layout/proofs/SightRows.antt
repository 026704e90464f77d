-- Which glyphs lookups see, by HarfBuzz's rules and OpenType's lookup flags.
use Rattle.std.specs.Prelude.{ℕ, ◌≡◌, List, [], ◌∷◌, ◌++◌, Bool, true, false, None, Some, refl}
use Rattle.shapers_buffer.specs.Glyphs.{Glyph}
use Rattle.shapers_buffer.specs.Glyph.{default_glyph}
use Rattle.opentype_face.specs.Ranges.{bisect}
use Rattle.opentype_layout.specs.declared.sight.Application.{Application}
use Rattle.opentype_layout.specs.declared.sight.Sight.{Sight}
use Rattle.opentype_layout.specs.Sight.{flag_in, ignores, may_pass, seen_as, sight_of_context, sight_of_input}

-- ---- sights

-- a lookup of flag 8 (marks are ignored), without subtables
abbrev lookup : List ℕ
lookup = 0 ∷ 1 ∷ 0 ∷ 8 ∷ 0 ∷ 0 ∷ []

abbrev substituting : Application
substituting = record { of_gpos = false; mask = 4; auto_zwnj = true; auto_zwj = false; per_syllable = true }

abbrev positioning : Application
positioning = record { of_gpos = true; mask = 4; auto_zwnj = false; auto_zwj = true; per_syllable = true }

abbrev manual : Application
manual = record substituting { auto_zwnj = false; per_syllable = false }

abbrev sight_as : ℕ → ℕ → Bool → Bool → Bool → Sight
sight_as mask syllable over_zwnj over_zwj of_gpos = record {
  flag = 8;
  set = 0;
  mask = mask;
  syllable = syllable;
  over_zwnj = over_zwnj;
  over_zwj = over_zwj;
  of_gpos = of_gpos;
}

-- GSUB: non-joiners in contexts by the feature's wish, joiners in contexts, in the input by its wish
gsub-input : sight_of_input [] lookup substituting 3 ≡ sight_as 4 3 false false false
unfolding sight_of_input flag_in
gsub-input = refl

gsub-context : sight_of_context [] lookup substituting 3 ≡ sight_as 0xFFFFFFFF 3 true true false
unfolding sight_of_context flag_in
gsub-context = refl

gsub-manual-input : sight_of_input [] lookup manual 3 ≡ sight_as 4 0 false false false
unfolding sight_of_input flag_in
gsub-manual-input = refl

gsub-manual-context : sight_of_context [] lookup manual 3 ≡ sight_as 0xFFFFFFFF 0 false true false
unfolding sight_of_context flag_in
gsub-manual-context = refl

-- GPOS: over non-joiners always, never by syllables
gpos-input : sight_of_input [] lookup positioning 3 ≡ sight_as 4 0 true true true
unfolding sight_of_input flag_in
gpos-input = refl

gpos-context : sight_of_context [] lookup positioning 3 ≡ sight_as 0xFFFFFFFF 0 true true true
unfolding sight_of_context flag_in
gpos-context = refl

-- ---- characters that aren't drawn

abbrev sign : ℕ → Glyph
sign props = record default_glyph { unicode_props = record { 0 = props }; mask = 1 }

-- a zero width non-joiner, a zero width joiner, a soft hyphen (all of category Cf, ignorable), a
-- combining grapheme joiner (Mn, ignorable, hidden), and a letter
abbrev non_joiner : Glyph
non_joiner = sign 545

abbrev joiner : Glyph
joiner = sign 289

abbrev hyphen : Glyph
hyphen = sign 33

abbrev grapheme_joiner : Glyph
grapheme_joiner = sign 108

abbrev letter : Glyph
letter = sign 7

-- a search passes over each of them as its sight says; over a soft hyphen always, over a letter never
zwnj-1 : may_pass (sight_as 1 0 false true false) non_joiner ≡ false
unfolding may_pass
zwnj-1 = refl

zwnj-2 : may_pass (sight_as 1 0 true false false) non_joiner ≡ true
unfolding may_pass
zwnj-2 = refl

zwj-1 : may_pass (sight_as 1 0 true false false) joiner ≡ false
unfolding may_pass
zwj-1 = refl

zwj-2 : may_pass (sight_as 1 0 false true false) joiner ≡ true
unfolding may_pass
zwj-2 = refl

cgj-1 : may_pass (sight_as 1 0 true true false) grapheme_joiner ≡ false
unfolding may_pass
cgj-1 = refl

cgj-2 : may_pass (sight_as 1 0 false false true) grapheme_joiner ≡ true
unfolding may_pass
cgj-2 = refl

shy-1 : may_pass (sight_as 1 0 false false false) hyphen ≡ true
unfolding may_pass
shy-1 = refl

letter-stays-1 : may_pass (sight_as 1 0 true true true) letter ≡ false
unfolding may_pass
letter-stays-1 = refl

-- one that a lookup put in is drawn
put-in : may_pass (sight_as 1 0 true true true) (record hyphen { glyph_props = record { 0 = 16 } }) ≡ false
unfolding may_pass
put-in = refl

-- where such a glyph itself fits it counts; where it does not the search goes on, and ends at a letter
fits : seen_as [] (sight_as 1 0 true true false) true hyphen ≡ Some true
unfolding seen_as may_pass ignores
fits = refl

passed : seen_as [] (sight_as 1 0 true true false) false hyphen ≡ None
unfolding seen_as may_pass ignores
passed = refl

ends : seen_as [] (sight_as 1 0 true true false) false letter ≡ Some false
unfolding seen_as may_pass ignores
ends = refl

-- by masks, and by syllables, of which 0 is free
mask-off : seen_as [] (sight_as 2 0 true true false) true letter ≡ Some false
unfolding seen_as may_pass ignores
mask-off = refl

syllable-same : seen_as [] (sight_as 1 3 true true false) true (record letter { syllable = 3 }) ≡ Some true
unfolding seen_as may_pass ignores
syllable-same = refl

syllable-other : seen_as [] (sight_as 1 3 true true false) true (record letter { syllable = 4 }) ≡ Some false
unfolding seen_as may_pass ignores
syllable-other = refl

syllable-free : seen_as [] (sight_as 1 0 true true false) true (record letter { syllable = 4 }) ≡ Some true
unfolding seen_as may_pass ignores
syllable-free = refl

-- ---- flags of lookups

-- GDEF 1.2 with one set of marks, which has glyph 7
abbrev gdef : List ℕ
gdef = (0 ∷ 1 ∷ 0 ∷ 2 ∷ 0 ∷ 0 ∷ 0 ∷ 0 ∷ 0 ∷ 0 ∷ 0 ∷ 0 ∷ 0 ∷ 14 ∷ []) ++ (0 ∷ 1 ∷ 0 ∷ 1 ∷ 0 ∷ 0 ∷ 0 ∷ 8 ∷ [])
    ++ (0 ∷ 1 ∷ 0 ∷ 1 ∷ 0 ∷ 7 ∷ [])

abbrev classed : ℕ → ℕ → Glyph
classed number props = record default_glyph { glyph_id = number; glyph_props = record { 0 = props } }

-- bases by 2, ligatures by 4, marks by 8, each but by its own

bases-base : ignores gdef 2 0 (classed 7 2) ≡ true
unfolding ignores bisect
bases-base = refl

bases-ligature : ignores gdef 2 0 (classed 7 4) ≡ false
unfolding ignores bisect
bases-ligature = refl

bases-mark : ignores gdef 2 0 (classed 7 8) ≡ false
unfolding ignores bisect
bases-mark = refl

ligatures-base : ignores gdef 4 0 (classed 7 2) ≡ false
unfolding ignores bisect
ligatures-base = refl

ligatures-ligature : ignores gdef 4 0 (classed 7 4) ≡ true
unfolding ignores bisect
ligatures-ligature = refl

ligatures-mark : ignores gdef 4 0 (classed 7 8) ≡ false
unfolding ignores bisect
ligatures-mark = refl

marks-base : ignores gdef 8 0 (classed 7 2) ≡ false
unfolding ignores bisect
marks-base = refl

marks-ligature : ignores gdef 8 0 (classed 7 4) ≡ false
unfolding ignores bisect
marks-ligature = refl

marks-mark : ignores gdef 8 0 (classed 7 8) ≡ true
unfolding ignores bisect
marks-mark = refl

-- marks of another class than 1 by 0x100, and no base
class-same : ignores gdef 0x100 0 (classed 7 0x108) ≡ false
unfolding ignores bisect
class-same = refl

class-other : ignores gdef 0x100 0 (classed 7 0x208) ≡ true
unfolding ignores bisect
class-other = refl

class-base : ignores gdef 0x100 0 (classed 7 2) ≡ false
unfolding ignores bisect
class-base = refl

-- marks outside a set by 16, whatever the class
set-in : ignores gdef 0x110 0 (classed 7 0x208) ≡ false
unfolding ignores bisect
set-in = refl

set-out : ignores gdef 16 0 (classed 6 8) ≡ true
unfolding ignores bisect
set-out = refl

set-base : ignores gdef 16 0 (classed 6 2) ≡ false
unfolding ignores bisect
set-base = refl

-- a set that is there, and one that is not: the flag is read without it
set-there : flag_in gdef (0 ∷ 1 ∷ 0 ∷ 24 ∷ 0 ∷ 0 ∷ 0 ∷ 0 ∷ []) ≡ 24
unfolding flag_in
set-there = refl

set-not-there : flag_in gdef (0 ∷ 1 ∷ 0 ∷ 24 ∷ 0 ∷ 0 ∷ 0 ∷ 1 ∷ []) ≡ 8
unfolding flag_in
set-not-there = refl
