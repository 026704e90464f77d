-- Done again at once, these hooks and pauses change the text once more: small texts.
use Rattle.std.specs.Prelude.{◌≡◌, ℕ, ◌==◌, false, true, pos, Some, None, List, [], ◌∷◌, map, refl, if◌then◌else◌}
use Rattle.std.specs.List.{list_any}
use Rattle.shapers_arabic.specs.Marks.{marks_reordered}
use Rattle.shapers_base.specs.Font.{Font}
use Rattle.shapers_buffer.specs.declared.buffer.category.hb_unicode_general_category_t.TheVariants.{Mn}
use Rattle.shapers_buffer.specs.Glyphs.{Glyph, Glyphs}
use Rattle.shapers_buffer.specs.declared.buffer.level.BufferClusterLevel.TheVariants.{MonotoneGraphemes}
use Rattle.shapers_buffer.specs.Glyph.{characters, default_glyph}
use Rattle.shapers_buffer.specs.Properties.{general_category, modified_combining_class, properties}
use Rattle.shapers_clusters.specs.Steps.{after_step}
use Rattle.shapers_hangul.specs.Hangul.{preprocessed}
use Rattle.shapers_universal.specs.Universal.{universal_order}
use Rattle.shapers_text.specs.Hebrew.{hebrew_mark_step}
use Rattle.shapers_text.specs.ThaiForms.{preprocessed_text}

abbrev text : List ℕ → Glyphs
text us = map (λ u. let g : Glyph = record default_glyph { glyph_id = u } in g) us

-- Thai: a base that lost its descender is no base any more, so the vowel below it is shifted then
abbrev shaped : Glyphs → Glyphs
shaped gs = preprocessed_text true (λ u. true) MonotoneGraphemes gs

thai_forms : characters (shaped (text (0x0E0D ∷ 0x0E38 ∷ []))) ≡ 0xF70F ∷ 0x0E38 ∷ []
thai_forms = refl

thai_forms_again : characters (shaped (shaped (text (0x0E0D ∷ 0x0E38 ∷ [])))) ≡ 0xF70F ∷ 0xF718 ∷ []
thai_forms_again = refl

-- Hangul: a tone moved before its syllable has none before it, so it gets a circle then
abbrev wide_font : Font
wide_font = record {
  nominal = λ c. if list_any (λ u. u == c) (0xAC00 ∷ 0x302E ∷ 0x25CC ∷ []) then Some (record { 0 = c }) else None;
  advance = λ glyph. pos 500;
  applies = λ lookup glyphs zero. false;
  offers = λ tag. false;
}

abbrev rewritten_once : Glyphs → Glyphs
rewritten_once gs = preprocessed wide_font true MonotoneGraphemes gs

hangul_tone : characters (rewritten_once (text (0xAC00 ∷ 0x302E ∷ []))) ≡ 0x302E ∷ 0xAC00 ∷ []
hangul_tone = refl

hangul_tone_again : characters (rewritten_once (rewritten_once (text (0xAC00 ∷ 0x302E ∷ [])))) ≡ 0x302E ∷ 0x25CC
    ∷ 0xAC00 ∷ []
hangul_tone_again = refl

-- Hebrew: of two triples of marks each time the first one changes
abbrev of_classes : List ℕ → Glyphs
of_classes cs = map (λ c. let g : Glyph = record default_glyph { unicode_props = properties Mn c } in g) cs

abbrev classes : Glyphs → List ℕ
classes gs = map (λ g. modified_combining_class g.unicode_props) gs

abbrev swapped : Glyphs → Glyphs
swapped gs = after_step MonotoneGraphemes (hebrew_mark_step 0 6 gs) gs

hebrew_marks : classes (swapped (of_classes (20 ∷ 22 ∷ 25 ∷ 20 ∷ 22 ∷ 25 ∷ []))) ≡ 20 ∷ 25 ∷ 22 ∷ 20 ∷ 22 ∷ 25 ∷ []
unfolding modified_combining_class general_category
hebrew_marks = refl

hebrew_marks_again : classes (swapped (swapped (of_classes (20 ∷ 22 ∷ 25 ∷ 20 ∷ 22 ∷ 25 ∷ [])))) ≡ 20 ∷ 25 ∷ 22 ∷ 20
    ∷ 25 ∷ 22 ∷ []
unfolding modified_combining_class general_category
hebrew_marks_again = refl

-- Arabic: a modifier of class 230 before one of class 220 comes first, in a class below 220, and so
-- the other passes it then; marks in the order of their classes have no such neighbours
abbrev modifiers_turned : Glyphs
modifiers_turned = record default_glyph { glyph_id = 0x0654; unicode_props = properties Mn 230 }
    ∷ record default_glyph { glyph_id = 0x0655; unicode_props = properties Mn 220 } ∷ []

arabic_marks : characters (marks_reordered 0 2 modifiers_turned) ≡ 0x0654 ∷ 0x0655 ∷ []
unfolding modified_combining_class general_category
arabic_marks = refl

arabic_marks_again : characters (marks_reordered 0 2 (marks_reordered 0 2 modifiers_turned)) ≡ 0x0655 ∷ 0x0654 ∷ []
unfolding modified_combining_class general_category
arabic_marks_again = refl

-- The universal shaper: of two vowels before the base, the last comes first each time. Categories:
-- base 1, vowel before the base 22
abbrev base_and_vowels : Glyphs
base_and_vowels = record default_glyph { glyph_id = 0; syllable = 0x12; category = 1 }
    ∷ record default_glyph { glyph_id = 1; syllable = 0x12; category = 22 }
    ∷ record default_glyph { glyph_id = 2; syllable = 0x12; category = 22 } ∷ []

two_vowels : characters (universal_order base_and_vowels) ≡ 2 ∷ 1 ∷ 0 ∷ []
two_vowels = refl

two_vowels_again : characters (universal_order (universal_order base_and_vowels)) ≡ 1 ∷ 2 ∷ 0 ∷ []
two_vowels_again = refl
