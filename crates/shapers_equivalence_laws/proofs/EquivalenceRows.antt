-- Full decompositions and equivalent texts, and where the law ends.
use Rattle.std.specs.Prelude.{◌≡◌, ℕ, ◌==◌, not, ◌&&◌, ◌||◌, true, false, List, [], ◌∷◌, ◌++◌, find, map, replicate, Option, None, Some, option_map, if◌then◌else◌, refl}
use Rattle.std.specs.List.{enumerate_from, list_any}
use Rattle.std.specs.Option.{option_map_or}
use Rattle.rustybuzz_shapers.specs.declared.shaper.hb_ot_shaper_t.{hb_ot_shaper_t}
use Rattle.rustybuzz_shapers.specs.declared.shaper.hb_ot_shaper_t.TheVariants.{Arabic, Hebrew}
use Rattle.shapers_base.specs.declared.font.GlyphId.{GlyphId}
use Rattle.shapers_base.specs.declared.plan.record.NormalizationMode.TheVariants.{NONE, AUTO, CD}
use Rattle.shapers_buffer.specs.declared.buffer.category.hb_unicode_general_category_t.{hb_unicode_general_category_t}
use Rattle.shapers_buffer.specs.declared.buffer.category.hb_unicode_general_category_t.TheVariants.{Lo, Mn}
use Rattle.shapers_buffer.specs.Glyphs.{Glyph, Glyphs}
use Rattle.shapers_buffer.specs.declared.buffer.level.BufferClusterLevel.TheVariants.{MonotoneGraphemes}
use Rattle.shapers_buffer.specs.Glyph.{characters, default_glyph}
use Rattle.shapers_normal.specs.Context.{Context}
use Rattle.shapers_normal.specs.Normalization.{normalized}
use Rattle.shapers_normal.specs.Properties.{as_character}
use Rattle.shapers_normal.specs.Sorting.{class_of_mark}
use Rattle.shapers_normal.specs.declared.ot_shape_normalize.normalizing.Rounds.TheVariants.{Always}
use Rattle.shapers_pipeline.specs.ByShaper.{ordered_for}
use Rattle.shapers_equivalence_laws.specs.Equivalence.{apart_in_steps, full_decomposition, fully_decomposed, ordered_by_classes, with_marks_of}
use Rattle.shapers_equivalence_laws.specs.Laws.{has_short_sequences, in_canonical_order, mark_class}
use Rattle.shapers_buffer.specs.Properties.{with_high_byte, general_category, modified_combining_class}

-- Unicode's pairs of some characters: the Angstrom sign comes apart into one, 0344 is a mark, 0958
-- and notes are excluded from composition; and a chain in private use
abbrev rows : List (ℕ × ℕ × ℕ)
rows =
    (0xC1, 0x41, 0x301) ∷ (0xC5, 0x41, 0x30A) ∷ (0x212B, 0xC5, 0) ∷ (0x1E9B, 0x17F, 0x307) ∷ (0xAC01, 0xAC00, 0x11A8)
    ∷ (0xAC00, 0x1100, 0x1161) ∷ (0x958, 0x915, 0x93C) ∷ (0x9CB, 0x9C7, 0x9BE) ∷ (0x622, 0x627, 0x653) ∷
    (0x623, 0x627, 0x654) ∷ (0x1EA1, 0x61, 0x323) ∷ (0x344, 0x308, 0x301) ∷ (0x1D15F, 0x1D158, 0x1D165) ∷
    (0x1D164, 0x1D15F, 0x1D172)
    ∷ (0xE001, 0xE000, 0x301) ∷ (0xE002, 0xE001, 0x301) ∷ (0xE003, 0xE002, 0x301) ∷ (0xE004, 0xE003, 0x301) ∷
    (0xE005, 0xE004, 0x301)
    ∷ (0xE006, 0xE005, 0x301) ∷ (0xE007, 0xE006, 0x301) ∷ (0xE008, 0xE007, 0x301) ∷ (0xE009, 0xE008, 0x301) ∷ []

abbrev pairs : ℕ → Option (ℕ × ℕ)
pairs c = option_map (λ p. (p.1, p.2)) (find (λ p. p.0 == c) rows)

-- what isn't excluded composes
abbrev whole_of : ℕ → ℕ → Option ℕ
whole_of a b = option_map (λ p. p.0) (find
    (λ p. (p.1 == a && p.2 == b) && not
    (p.0 == 0x958 || p.0 == 0x344 || p.0 == 0x1D15F || p.0 == 0x1D164 || p.2 == 0)) rows)

full_decompositions : map (full_decomposition pairs)
    (0x41 ∷ 0xC5 ∷ 0x212B ∷ 0x1E9B ∷ 0xAC01 ∷ 0x958 ∷ 0x9CB ∷ 0x344 ∷ []) ≡ (0x41 ∷ []) ∷ (0x41 ∷ 0x30A ∷ []) ∷
    (0x41 ∷ 0x30A ∷ []) ∷ (0x17F ∷ 0x307 ∷ []) ∷ (0x1100 ∷ 0x1161 ∷ 0x11A8 ∷ []) ∷ (0x915 ∷ 0x93C ∷ []) ∷
    (0x9C7 ∷ 0x9BE ∷ []) ∷ (0x308 ∷ 0x301 ∷ []) ∷ []
full_decompositions = refl

-- in no steps, and in one
no_step : apart_in_steps pairs 0 0xC5 ≡ 0xC5 ∷ []
no_step = refl

one_step : apart_in_steps pairs 1 0xAC01 ≡ 0xAC00 ∷ 0x11A8 ∷ []
one_step = refl

-- in eight steps at most
eight_steps : full_decomposition pairs 0xE008 ≡ 0xE000 ∷ replicate 8 0x301
eight_steps = refl

nine_steps : full_decomposition pairs 0xE009 ≡ 0xE001 ∷ replicate 8 0x301
nine_steps = refl

text_apart : fully_decomposed pairs (0x1E9B ∷ 0x323 ∷ 0xAC00 ∷ []) ≡ 0x17F ∷ 0x307 ∷ 0x323 ∷ 0x1100 ∷ 0x1161 ∷ []
text_apart = refl

-- classes as the shapers have them
abbrev mark_classes : List (ℕ × ℕ)
mark_classes =
    (0x301, 230) ∷ (0x305, 230) ∷ (0x307, 230) ∷ (0x308, 230) ∷ (0x30A, 230) ∷ (0x344, 230) ∷ (0x316, 220) ∷
    (0x323, 220) ∷ (0x93C, 7)
    ∷ (0x9BE, 0) ∷ (0x653, 230) ∷ (0x654, 230) ∷ (0x658, 230) ∷ (0x64E, 31) ∷ (0x5B7, 20) ∷ (0x5B0, 22) ∷ (0xFE01, 0) ∷
    (0x1D165, 216) ∷ (0x1D172, 216) ∷ []

abbrev class_in : ℕ → ℕ
class_in c = option_map_or (λ p. p.1) (find (λ p. p.0 == c) mark_classes) 0

-- the marks of one class with the characters of class 0
below_alone : with_marks_of class_in 220 (0x17F ∷ 0x307 ∷ 0x323 ∷ 0x316 ∷ 0x41 ∷ []) ≡ 0x17F ∷ 0x323 ∷ 0x316 ∷ 0x41 ∷ []
below_alone = refl

letters_alone : with_marks_of class_in 0 (0x17F ∷ 0x307 ∷ 0x323 ∷ 0x41 ∷ []) ≡ 0x17F ∷ 0x41 ∷ []
letters_alone = refl

-- 1E9B 0323 and 017F 0323 0307 are one but for the order of marks of other classes; 0041 0301 030A
-- and 0041 030A 0301 aren't, nor are 0301 0041 and 0041 0301
other_classes : map (λ k. with_marks_of class_in k (fully_decomposed pairs (0x1E9B ∷ 0x323 ∷ []))) (0 ∷ 220 ∷ 230 ∷ [])
    ≡ map (λ k. with_marks_of class_in k (0x17F ∷ 0x323 ∷ 0x307 ∷ [])) (0 ∷ 220 ∷ 230 ∷ [])
other_classes = refl

one_class : map (with_marks_of class_in 230) ((0x41 ∷ 0x301 ∷ 0x30A ∷ []) ∷ (0x41 ∷ 0x30A ∷ 0x301 ∷ []) ∷ []) ≡
    (0x41 ∷ 0x301 ∷ 0x30A ∷ []) ∷ (0x41 ∷ 0x30A ∷ 0x301 ∷ []) ∷ []
one_class = refl

over_a_letter : map (with_marks_of class_in 230) ((0x301 ∷ 0x41 ∷ []) ∷ (0x41 ∷ 0x301 ∷ []) ∷ []) ≡
    (0x301 ∷ 0x41 ∷ []) ∷ (0x41 ∷ 0x301 ∷ []) ∷ []
over_a_letter = refl

-- each sequence class by class, those of one class in their order; marks in front, classes 1 and 255
ordered : ordered_by_classes class_in (0x307 ∷ 0x323 ∷ 0x41 ∷ 0x301 ∷ 0x316 ∷ 0x30A ∷ 0x323 ∷ 0x42 ∷ [])
    ≡ 0x323 ∷ 0x307 ∷ 0x41 ∷ 0x316 ∷ 0x323 ∷ 0x301 ∷ 0x30A ∷ 0x42 ∷ []
ordered = refl

all_classes : ordered_by_classes (λ c. c) (255 ∷ 1 ∷ 0 ∷ 2 ∷ []) ≡ 1 ∷ 255 ∷ 0 ∷ 2 ∷ []
all_classes = refl

-- the second of two neighbours in no lesser class, or in class 0
orders : map in_canonical_order ([] ∷ (230 ∷ []) ∷ (220 ∷ 230 ∷ []) ∷ (230 ∷ 230 ∷ []) ∷ (230 ∷ 0 ∷ 220 ∷ []) ∷
    (230 ∷ 220 ∷ []) ∷ (0 ∷ 230 ∷ 7 ∷ []) ∷ []) ≡ true ∷ true ∷ true ∷ true ∷ true ∷ false ∷ false ∷ []
orders = refl

-- ---- a context of these, with a font that has every character

abbrev category_of : ℕ → hb_unicode_general_category_t
category_of c = if list_any (λ p. p.0 == c) mark_classes then Mn else Lo

abbrev whole : Context
whole = record {
  mode = AUTO;
  decomposed = pairs;
  composed = whole_of;
  reordered = λ level s e gs. gs;
  nominal = λ c. let glyph : GlyphId = record { 0 = c } in Some glyph;
  variant = λ c selector. None;
  general = category_of;
  class = class_in;
  ignorable = λ c. false;
  invisible = None;
  draws_selectors = false;
}

abbrev text : List ℕ → Glyphs
text cs = map (λ p. let g : Glyph = record (as_character whole p.1 0 default_glyph) { cluster = p.0 } in g)
    (enumerate_from 0 cs)

abbrev normal : List ℕ → List ℕ
normal cs = characters (normalized whole Always MonotoneGraphemes (text cs))

classes_of_marks : map (mark_class whole) (0x41 ∷ 0x301 ∷ 0x323 ∷ 0x9BE ∷ []) ≡ 0 ∷ 230 ∷ 220 ∷ 0 ∷ []
unfolding general_category class_of_mark
classes_of_marks = refl

-- a sequence of 32 marks is short, one of 33 isn't
short_runs : map (λ n. has_short_sequences (text (0x41 ∷ replicate n 0x316))) (32 ∷ 33 ∷ []) ≡ true ∷ false ∷ []
unfolding general_category class_of_mark
short_runs = refl

-- 33 marks stay unsorted, and the last of them composes over one of its class
unsorted : normal (0x41 ∷ 0x305 ∷ (replicate 31 0x316 ++ 0x301 ∷ [])) ≡ 0xC1 ∷ 0x305 ∷ replicate 31 0x316
unfolding general_category class_of_mark
unsorted = refl

sorted_run : normal (0x41 ∷ 0x305 ∷ (replicate 30 0x316 ++ 0x301 ∷ [])) ≡ 0x41 ∷
    (replicate 30 0x316 ++ 0x305 ∷ 0x301 ∷ [])
unfolding general_category class_of_mark
sorted_run = refl

-- ---- shapers with an order of their own

abbrev ordering : hb_ot_shaper_t → Context
ordering shaper = record whole { reordered = ordered_for (Some shaper) }

abbrev normal_by : hb_ot_shaper_t → List ℕ → List ℕ
normal_by shaper cs = characters (normalized (ordering shaper) Always MonotoneGraphemes (text cs))

-- a modifier takes a class of its own, and the mark behind it, of its class by Unicode, composes over
-- it; without the third round both stay in order
over_modifier : normal_by Arabic (0x627 ∷ 0x658 ∷ 0x653 ∷ []) ≡ 0x622 ∷ 0x658 ∷ []
unfolding general_category modified_combining_class class_of_mark
over_modifier = refl

blocked_by_modifier : normal (0x627 ∷ 0x658 ∷ 0x653 ∷ []) ≡ 0x627 ∷ 0x658 ∷ 0x653 ∷ []
unfolding general_category class_of_mark
blocked_by_modifier = refl

-- a modifier passes a mark of a lesser class
modifier_first : normal_by Arabic (0x628 ∷ 0x64E ∷ 0x654 ∷ []) ≡ 0x628 ∷ 0x654 ∷ 0x64E ∷ []
unfolding general_category modified_combining_class class_of_mark
modifier_first = refl

-- behind a sheva that meteg or a mark below passes stands a mark of that one's class, which composes
over_swapped : normal_by Hebrew (0x61 ∷ 0x5B7 ∷ 0x5B0 ∷ 0x316 ∷ 0x323 ∷ []) ≡ 0x1EA1 ∷ 0x5B7 ∷ 0x316 ∷ 0x5B0 ∷ []
unfolding general_category modified_combining_class class_of_mark
over_swapped = refl

blocked_below : normal (0x61 ∷ 0x5B7 ∷ 0x5B0 ∷ 0x316 ∷ 0x323 ∷ []) ≡ 0x61 ∷ 0x5B7 ∷ 0x5B0 ∷ 0x316 ∷ 0x323 ∷ []
unfolding general_category class_of_mark
blocked_below = refl

-- ---- without the other premises

-- a mark whose glyph has another class than its character
abbrev in_class_220 : Glyph → Glyph
in_class_220 g = record g { unicode_props = with_high_byte 220 g.unicode_props }

other_class : characters (normalized whole Always MonotoneGraphemes
    (text (0x41 ∷ []) ++ (map in_class_220 (text (0x305 ∷ [])) ++ text (0x301 ∷ [])))) ≡ 0xC1 ∷ 0x305 ∷ []
unfolding general_category class_of_mark
other_class = refl

-- a character and a selector of which the font has the form
abbrev with_forms : Context
with_forms = record whole { variant = λ c selector. let glyph : GlyphId = record { 0 = 7 } in Some glyph }

one_form : characters (normalized with_forms Always MonotoneGraphemes (text (0x61 ∷ 0xFE01 ∷ []))) ≡ 0x61 ∷ []
unfolding general_category class_of_mark
one_form = refl

-- a split vowel of Khmer
abbrev splitting : Context
splitting = record whole { mode = CD; decomposed = λ c. if c == 0x17BE then Some (0x17C1, c) else None }

split_vowel : characters (normalized splitting Always MonotoneGraphemes (text (0x17BE ∷ []))) ≡ 0x17C1 ∷ 0x17BE ∷ []
unfolding general_category class_of_mark
split_vowel = refl

-- ---- twice

-- a note that the font lacks comes apart as far as the font has it, and then further
abbrev without_note : Context
without_note = record whole {
  nominal = λ c. if c == 0x1D164 then None else
      (let glyph : GlyphId = record { 0 = c } in Some glyph);
}

once : characters (normalized without_note Always MonotoneGraphemes (text (0x1D164 ∷ []))) ≡ 0x1D15F ∷ 0x1D172 ∷ []
unfolding general_category class_of_mark
once = refl

again : characters (normalized without_note Always MonotoneGraphemes (text (0x1D15F ∷ 0x1D172 ∷ [])))
    ≡ 0x1D158 ∷ 0x1D165 ∷ 0x1D172 ∷ []
unfolding general_category class_of_mark
again = refl

-- a text that is apart, in order, stays so for a shaper that composes nothing
apart_stays : characters (normalized (record whole { mode = NONE }) Always MonotoneGraphemes
    (text (0x41 ∷ 0x316 ∷ 0x301 ∷ []))) ≡ 0x41 ∷ 0x316 ∷ 0x301 ∷ []
unfolding general_category class_of_mark
apart_stays = refl
