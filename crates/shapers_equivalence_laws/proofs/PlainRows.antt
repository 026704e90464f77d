-- What preparation hands to normalization by Unicode's tables, and where a glyph isn't in the class of its character.
use Rattle.std.specs.Prelude.{◌≡◌, ◌==◌, ℕ, suc, Bool, true, false, List, [], ◌∷◌, map, None, Some, codes, pos, refl}
use Rattle.rustybuzz_shapers.specs.declared.shaper.hb_ot_shaper_t.{hb_ot_shaper_t}
use Rattle.rustybuzz_shapers.specs.declared.shaper.hb_ot_shaper_t.TheVariants.{Arabic, Hangul, Hebrew, Indic, Khmer, Myanmar, MyanmarZawgyi, Thai, Universal}
use Rattle.shapers_base.specs.Font.{Font}
use Rattle.shapers_base.specs.Plan.{new_plan}
use Rattle.shapers_base.specs.declared.font.GlyphId.{GlyphId}
use Rattle.shapers_buffer.specs.Buffer.{Buffer, new_buffer}
use Rattle.shapers_buffer.specs.Glyph.{characters, default_glyph}
use Rattle.shapers_buffer.specs.Glyphs.{Glyphs}
use Rattle.shapers_buffer.specs.Properties.{general_category, modified_combining_class}
use Rattle.shapers_buffer.specs.declared.buffer.level.Direction.{Direction}
use Rattle.shapers_buffer.specs.declared.buffer.level.Direction.TheVariants.{LeftToRight, RightToLeft}
use Rattle.shapers_normal.specs.Sorting.{class_of, class_of_mark}
use Rattle.shapers_normal.specs.Variants.{is_selector_glyph}
use Rattle.shapers_normal.specs.declared.ot_shape_normalize.normalizing.Rounds.TheVariants.{Always}
use Rattle.shapers_pipeline.specs.Prepared.{Preparation, context_of, text_normalized}
use Rattle.shapers_prepare.specs.UnicodeValues.{unicode_properties}
use Rattle.shapers_prepare.specs.VowelRows.{devanagari_pairs, sinhala_pairs}
use Rattle.shapers_unicode.specs.Answers.{unicode_tables}
use Rattle.shapers_unicode.specs.ClassRows.{class_rows}
use Rattle.shapers_unicode.specs.Classes.{changed_classes, class_exceptions, modified_class}
use Rattle.shapers_unicode.specs.General.{category_of_character}
use Rattle.shapers_unicode.specs.GeneralRows.{general_rows}
use Rattle.shapers_unicode.specs.Ignorable.{default_ignorable, drawn_ranges}
use Rattle.shapers_unicode.specs.IgnorableRanges.{ignorable_ranges}
use Rattle.shapers_unicode.specs.MirroredRows.{mirrored_rows}
use Rattle.shapers_unicode.specs.Pairs.{composed, decomposed, mirrored, primary_composite}
use Rattle.shapers_unicode.specs.MappingRows.{mapping_rows}
use Rattle.shapers_unicode.specs.ExclusionRanges.{exclusion_ranges}
use Rattle.ucd_table.proofs.Computing.{tables}
use Rattle.shapers_equivalence_laws.specs.Laws.{mark_class}
use Rattle.shapers_equivalence_laws.specs.PreparedTexts.{before_normalization, by_unicode, copies_class, rewrites_texts}
use Rattle.shapers_equivalence_laws.specs.Shapers.{unicode_texts}

-- a font that has every character, and no narrow tone
abbrev font : Font
font = record {
  nominal = λ c. let glyph : GlyphId = record { 0 = c } in Some glyph;
  advance = λ g. pos 1000;
  applies = λ l gs z. false;
  offers = λ t. false;
}

-- a preparation by a shaper, of a script that the font has no features for
abbrev by : hb_ot_shaper_t → List ℕ → Preparation
by shaper script = by_unicode (record {
  shaper = Some shaper;
  plan = new_plan (Some (record { 0 = script }))
      (record { features = []; stages = []; lookups = []; global = 0; chosen = None; found = false });
  masks = record { frac = 0; numr = 0; dnom = 0; rtlm = 0; vert = 0 };
  ranges = [];
  font = font;
  variants = λ c s. None;
  properties = unicode_properties;
  tables = unicode_tables;
  texts = unicode_texts;
  settings = record { rounds = Always; invisible_glyph = None; draws_selectors = false };
})

abbrev text_from : ℕ → List ℕ → Glyphs
text_from k [] = []
text_from k (c ∷ cs) = (record default_glyph { glyph_id = c; cluster = k }) ∷ text_from (suc k) cs

abbrev text : Direction → List ℕ → List ℕ → Buffer
text direction script cs = record (new_buffer 9) {
  glyphs = text_from 0 cs;
  direction = direction;
  script = Some (record { 0 = script });
}

-- of each glyph before normalization its character, and whether it is in the class of that
abbrev handed : hb_ot_shaper_t → Direction → List ℕ → List ℕ → List (ℕ × Bool)
handed shaper direction script cs =
    let p = by shaper script in
    map (λ g. (g.glyph_id, class_of g == mark_class (context_of p) g.glyph_id))
    (before_normalization p (text direction script cs)).glyphs

abbrev copies : hb_ot_shaper_t → List ℕ → List ℕ → Bool
copies shaper script cs = copies_class (by shaper script) (text LeftToRight script cs)

-- and the characters behind it
abbrev becomes : hb_ot_shaper_t → List ℕ → List ℕ → List ℕ
becomes shaper script cs = characters (text_normalized (by shaper script) (text LeftToRight script cs)).glyphs

-- a tone behind its syllable goes before it; alone it gets a circle, which has its class, and which a mark below passes
tone_behind : handed Hangul LeftToRight (codes "Hang") (0xAC00 ∷ 0x302E ∷ []) ≡ (0x302E, true) ∷ (0xAC00, true) ∷ []
unfolding tables general_category class_of_mark category_of_character general_rows default_ignorable ignorable_ranges drawn_ranges modified_class class_rows changed_classes class_exceptions
tone_behind = refl

tone_alone : handed Hangul LeftToRight (codes "Hang") (0x302E ∷ 0x0323 ∷ []) ≡ (0x302E, true) ∷ (0x25CC, false) ∷ (0x0323, true) ∷ []
unfolding tables general_category class_of_mark category_of_character general_rows default_ignorable ignorable_ranges drawn_ranges modified_class class_rows changed_classes class_exceptions
tone_alone = refl

circles_copy : map (copies Hangul (codes "Hang")) ((0xAC00 ∷ 0x302E ∷ []) ∷ (0x302E ∷ []) ∷ (0xAC00 ∷ 0x302E ∷ 0x302F ∷ []) ∷ [])
    ≡ false ∷ true ∷ true ∷ []
unfolding tables general_category class_of_mark category_of_character general_rows default_ignorable ignorable_ranges drawn_ranges modified_class class_rows changed_classes class_exceptions
circles_copy = refl

below_circle : becomes Hangul (codes "Hang") (0x302E ∷ 0x0323 ∷ []) ≡ 0x0323 ∷ 0x302E ∷ 0x25CC ∷ []
unfolding tables general_category class_of_mark category_of_character general_rows default_ignorable ignorable_ranges drawn_ranges modified_class class_rows changed_classes class_exceptions mapping_rows composed decomposed primary_composite exclusion_ranges
below_circle = refl

-- a private use form has the class of the tone that it stands for, and a vowel below passes it; where a font has
-- features for Thai there are none
tone_formed : handed Thai LeftToRight (codes "Thai") (0x0E1B ∷ 0x0E48 ∷ []) ≡ (0x0E1B, true) ∷ (0xF705, false) ∷ []
unfolding tables general_category class_of_mark category_of_character general_rows default_ignorable ignorable_ranges drawn_ranges modified_class class_rows changed_classes class_exceptions
tone_formed = refl

over_form : becomes Thai (codes "Thai") (0x0E1B ∷ 0x0E48 ∷ 0x0E38 ∷ []) ≡ 0x0E1B ∷ 0x0E38 ∷ 0xF705 ∷ []
unfolding tables general_category class_of_mark category_of_character general_rows default_ignorable ignorable_ranges drawn_ranges modified_class class_rows changed_classes class_exceptions composed decomposed primary_composite mapping_rows exclusion_ranges
over_form = refl

-- SARA AM in Lao, and a tone before it
sara_am : handed Thai LeftToRight (codes "Laoo") (0x0E81 ∷ 0x0EC9 ∷ 0x0EB3 ∷ [])
    ≡ (0x0E81, true) ∷ (0x0ECD, true) ∷ (0x0EC9, true) ∷ (0x0EB2, true) ∷ []
unfolding tables general_category modified_combining_class class_of_mark category_of_character general_rows default_ignorable ignorable_ranges drawn_ranges modified_class class_rows changed_classes class_exceptions
sara_am = refl

forms_copy : map (λ script. copies Thai script (0x0E19 ∷ [])) (codes "Thai" ∷ codes "Laoo" ∷ []) ≡ true ∷ false ∷ []
forms_copy = refl

-- a circle in front of Sinhala's virama has its class, and a mark of a lesser one passes it; a circle in front of a
-- vowel has none
virama_circled : handed Universal LeftToRight (codes "Sinh") (0x0D91 ∷ 0x0DCA ∷ [])
    ≡ (0x0D91, true) ∷ (0x25CC, false) ∷ (0x0DCA, true) ∷ []
unfolding tables general_category class_of_mark category_of_character general_rows default_ignorable ignorable_ranges drawn_ranges modified_class class_rows changed_classes class_exceptions sinhala_pairs
virama_circled = refl

over_circle : becomes Universal (codes "Sinh") (0x0D91 ∷ 0x0DCA ∷ 0x0334 ∷ []) ≡ 0x0D91 ∷ 0x0334 ∷ 0x25CC ∷ 0x0DCA ∷ []
unfolding tables general_category class_of_mark category_of_character general_rows default_ignorable ignorable_ranges drawn_ranges modified_class class_rows changed_classes class_exceptions composed decomposed primary_composite mapping_rows exclusion_ranges sinhala_pairs
over_circle = refl

vowel_circled : handed Universal LeftToRight (codes "Sinh") (0x0D91 ∷ 0x0DD9 ∷ 0x0DCA ∷ [])
    ≡ (0x0D91, true) ∷ (0x25CC, true) ∷ (0x0DD9, true) ∷ (0x0DCA, true) ∷ []
unfolding tables general_category class_of_mark category_of_character general_rows default_ignorable ignorable_ranges drawn_ranges modified_class class_rows changed_classes class_exceptions sinhala_pairs
vowel_circled = refl

viramas_copy : (copies Universal (codes "Sinh") (0x0D91 ∷ 0x0DCA ∷ []) ∷ copies Universal (codes "Sinh") (0x0D9A ∷ 0x0DCA ∷ [])
    ∷ copies Indic (codes "Deva") (0x0905 ∷ 0x0946 ∷ []) ∷ []) ≡ true ∷ false ∷ false ∷ []
unfolding tables general_category class_of_mark category_of_character general_rows default_ignorable ignorable_ranges drawn_ranges modified_class class_rows changed_classes class_exceptions sinhala_pairs devanagari_pairs
viramas_copy = refl

-- a text from right to left with a bracket that is mirrored, and one that is turned grapheme by grapheme
bracket_mirrored : handed Hebrew RightToLeft (codes "Hebr") (0x05D0 ∷ 0x05B8 ∷ 0x0028 ∷ [])
    ≡ (0x05D0, true) ∷ (0x05B8, true) ∷ (0x0029, true) ∷ []
unfolding tables general_category class_of_mark category_of_character general_rows default_ignorable ignorable_ranges drawn_ranges modified_class class_rows changed_classes class_exceptions mirrored mirrored_rows
bracket_mirrored = refl

graphemes_turned : handed Hebrew LeftToRight (codes "Hebr") (0x05D0 ∷ 0x05B8 ∷ 0x0028 ∷ [])
    ≡ (0x0028, true) ∷ (0x05D0, true) ∷ (0x05B8, true) ∷ []
unfolding tables general_category class_of_mark category_of_character general_rows default_ignorable ignorable_ranges drawn_ranges modified_class class_rows changed_classes class_exceptions mirrored mirrored_rows
graphemes_turned = refl

-- the shapers that rewrite a text before it is normalized
rewriting : map rewrites_texts (None ∷ map Some (Arabic ∷ Hangul ∷ Hebrew ∷ Indic ∷ Khmer ∷ Myanmar ∷ MyanmarZawgyi
    ∷ Thai ∷ Universal ∷ []))
    ≡ false ∷ false ∷ true ∷ false ∷ true ∷ false ∷ false ∷ false ∷ true ∷ true ∷ []
rewriting = refl

-- a selector is none of these, and the law leaves texts with one out
selectors : map (λ c. is_selector_glyph (record default_glyph { glyph_id = c }))
    (0xFDFF ∷ 0xFE00 ∷ 0xFE0F ∷ 0xFE10 ∷ 0xE00FF ∷ 0xE0100 ∷ 0xE01EF ∷ 0xE01F0 ∷ [])
    ≡ false ∷ true ∷ true ∷ false ∷ false ∷ true ∷ true ∷ false ∷ []
selectors = refl
