-- The texts that preparation hands to normalization are plain, and stay canonically equivalent.
use Rattle.std.specs.Prelude.{◌≡◌, ◌==◌, not, ◌&&◌, Bool, true, false, Option, Some}
use Rattle.std.specs.List.{list_any}
use Rattle.std.specs.Option.{option_map_or}
use Rattle.rustybuzz_shapers.specs.declared.shaper.hb_ot_shaper_t.{hb_ot_shaper_t}
use Rattle.rustybuzz_shapers.specs.declared.shaper.hb_ot_shaper_t.TheVariants.{Hangul, Indic, Thai, Universal}
use Rattle.shapers_base.specs.Font.{Font, dotted_circle}
use Rattle.shapers_base.specs.declared.plan.hb_ot_shape_plan_t.{hb_ot_shape_plan_t}
use Rattle.shapers_buffer.specs.Buffer.{Buffer, asks}
use Rattle.shapers_buffer.specs.Glyph.{characters}
use Rattle.shapers_buffer.specs.Glyphs.{Glyph}
use Rattle.shapers_buffer.specs.declared.buffer.level.Direction.TheVariants.{LeftToRight}
use Rattle.shapers_hangul.specs.Hangul.{rewritten_by}
use Rattle.shapers_normal.specs.Decomposition.{first_round}
use Rattle.shapers_normal.specs.Normalization.{composes, has_rounds}
use Rattle.shapers_normal.specs.Sorting.{class_of}
use Rattle.shapers_normal.specs.Variants.{is_selector_glyph}
use Rattle.shapers_pipeline.specs.Prepared.{Preparation, context_of, rotated_from, text_directed, text_normalized}
use Rattle.shapers_prepare.specs.FirstCircle.{begins_text}
use Rattle.shapers_prepare.specs.NativeDirection.{native_direction}
use Rattle.shapers_prepare.specs.UnicodeValues.{unicode_properties}
use Rattle.shapers_prepare.specs.Vowels.{vowels_circled}
use Rattle.shapers_text.specs.ThaiForms.{asks_for_forms}
use Rattle.shapers_unicode.specs.Answers.{unicode_tables}
use Rattle.shapers_unicode.specs.Pairs.{decomposed}
use Rattle.shapers_equivalence_laws.specs.Equivalence.{CanonicallyEquivalent}
use Rattle.shapers_equivalence_laws.specs.Laws.{AreInOrder, IsPlainText, before_composing, has_short_sequences, mark_class}
use Rattle.shapers_equivalence_laws.specs.Shapers.{has_split_vowel, orders_marks, unicode_texts}

-- the same preparation, with Unicode's tables
abbrev pub by_unicode : Preparation → Preparation
by_unicode p = record p {
  properties = unicode_properties;
  tables = unicode_tables;
  texts = unicode_texts;
}

-- the text that normalization gets: with a circle in front of a first mark, in its own direction,
-- as its shaper rewrites it, with mirrored characters and vertical forms
abbrev pub before_normalization : Preparation → Buffer → Buffer
before_normalization p b = rotated_from p b.direction (text_directed p b)

-- a circle with the class of a mark, which it is a copy of
abbrev pub is_classed_circle : Glyph → Bool
is_classed_circle g = g.glyph_id == dotted_circle && not (class_of g == 0)

-- Whether a shaper's preprocessing makes a character of a mark that has a class, and leaves it that
-- class: the circle of a tone of Hangul that has no base, or one in front of Sinhala's virama; of
-- Thai, whether there may be private use forms.
abbrev pub copies_class_by : hb_ot_shape_plan_t → Font → Buffer → hb_ot_shaper_t → Bool
copies_class_by plan font b Hangul =
    list_any is_classed_circle (rewritten_by plan.break_flags font b).glyphs
copies_class_by plan font b Indic = list_any is_classed_circle (vowels_circled b)
copies_class_by plan font b Thai = asks_for_forms plan
copies_class_by plan font b Universal = list_any is_classed_circle (vowels_circled b)
copies_class_by plan font b shaper = false

abbrev pub copies_class : Preparation → Buffer → Bool
copies_class p b = option_map_or (copies_class_by p.plan p.font (text_directed p b)) p.shaper false

-- whether a shaper rewrites texts before they are normalized
abbrev pub rewrites_texts : Option hb_ot_shaper_t → Bool
rewrites_texts (Some Hangul) = true
rewrites_texts (Some Indic) = true
rewrites_texts (Some Thai) = true
rewrites_texts (Some Universal) = true
rewrites_texts _ = false

-- A text from left to right is handed to normalization with its own characters, if its shaper
-- doesn't rewrite it and it isn't the beginning of one, which may get a circle.
abbrev pub TextsAreHandedOver : Type 0
TextsAreHandedOver = (p : Preparation) (b : Buffer) →
    rewrites_texts p.shaper ≡ false → asks begins_text b ≡ false → b.direction ≡ LeftToRight →
    native_direction b.script ≡ LeftToRight →
    characters (before_normalization p b).glyphs ≡ characters b.glyphs

-- A text that preparation hands to normalization is plain, if the text before had no variation
-- selector, and preprocessing copies no class.
abbrev pub PreparedTextsArePlain : Type 0
PreparedTextsArePlain = (prepared_by : Preparation) (b : Buffer) →
    let p = by_unicode prepared_by in
    list_any is_selector_glyph b.glyphs ≡ false → copies_class p b ≡ false →
    IsPlainText (context_of p) (before_normalization p b).glyphs

-- So the normalized text of `shape` is canonically equivalent to it, if the second round leaves
-- marks in order, or if nothing is composed.
abbrev pub PreparedTextsStayEquivalent : Type 0
PreparedTextsStayEquivalent = (prepared_by : Preparation) (b : Buffer) →
    let p = by_unicode prepared_by in
    let text = before_normalization p b in
    list_any is_selector_glyph b.glyphs ≡ false → copies_class p b ≡ false →
    has_split_vowel p.shaper text.glyphs ≡ false →
    ((has_rounds p.settings.rounds text.glyphs && composes (context_of p).mode) ≡ true →
    AreInOrder (context_of p) (before_composing (context_of p) text.level text.glyphs)) →
    CanonicallyEquivalent decomposed (mark_class (context_of p))
    (characters (text_normalized p b).glyphs) (characters text.glyphs)

-- Marks are, for a shaper without an order of its own, where no sequence is longer than 32 marks.
abbrev pub ShortTextsStayEquivalent : Type 0
ShortTextsStayEquivalent = (prepared_by : Preparation) (b : Buffer) →
    let p = by_unicode prepared_by in
    let text = before_normalization p b in
    list_any is_selector_glyph b.glyphs ≡ false → copies_class p b ≡ false →
    has_split_vowel p.shaper text.glyphs ≡ false → orders_marks p.shaper ≡ false →
    has_short_sequences (first_round (context_of p) text.level text.glyphs) ≡ true →
    CanonicallyEquivalent decomposed (mark_class (context_of p))
    (characters (text_normalized p b).glyphs) (characters text.glyphs)
