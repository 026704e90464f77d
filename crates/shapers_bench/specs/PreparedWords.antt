-- A word that is prepared for the lookups of a font.
use Rattle.std.specs.Prelude.{ℕ, ◌≡◌, false, List, [], None}
use Rattle.shapers_base.specs.Font.{Font}
use Rattle.shapers_base.specs.declared.plan.hb_ot_shape_plan_t.{hb_ot_shape_plan_t}
use Rattle.shapers_buffer.specs.Buffer.{Buffer}
use Rattle.shapers_buffer.specs.Glyph.{characters}
use Rattle.shapers_equivalence_laws.specs.Laws.{IsPlainText}
use Rattle.shapers_equivalence_laws.specs.PreparedTexts.{before_normalization}
use Rattle.shapers_equivalence_laws.specs.Shapers.{unicode_texts}
use Rattle.shapers_normal.specs.declared.ot_shape_normalize.normalizing.Rounds.TheVariants.{Always}
use Rattle.shapers_pipeline.specs.Prepared.{Preparation, context_of, text_normalized, text_prepared}
use Rattle.shapers_pipeline.specs.TextTables.{VariantForms}
use Rattle.shapers_prepare.specs.UnicodeValues.{unicode_properties}
use Rattle.shapers_unicode.specs.Answers.{unicode_tables}
use Rattle.shapers_bench.specs.EquivalentWords.{taken_apart}

-- what a word of a script without a shaper is prepared by: Unicode's tables, and no features
abbrev pub prepared_with : hb_ot_shape_plan_t → Font → VariantForms → Preparation
prepared_with plan font variants = record {
  shaper = None;
  plan = plan;
  masks = record { frac = 0; numr = 0; dnom = 0; rtlm = 0; vert = 0 };
  ranges = [];
  font = font;
  variants = variants;
  properties = unicode_properties;
  tables = unicode_tables;
  texts = unicode_texts;
  settings = record { rounds = Always; invisible_glyph = None; draws_selectors = false };
}

-- A word so prepared. What is handed to normalization is plain, and has the word's characters; and
-- normalized, it is the word: taken apart to the end, with each sequence of marks in the order of
-- its classes, both are the same characters.
pub record IsPreparedWord (font : Font) (variants : VariantForms) (word : List ℕ) (b : Buffer)
    : Type 0 where
  pub plan : hb_ot_shape_plan_t
  pub text : Buffer
  pub made : b.glyphs ≡ (text_prepared (prepared_with plan font variants) text).glyphs
  pub plain : let p = prepared_with plan font variants in
      IsPlainText (context_of p) (before_normalization p text).glyphs
  pub handed_over : let p = prepared_with plan font variants in
      characters (before_normalization p text).glyphs ≡ word
  pub equivalent : let p = prepared_with plan font variants in
      let context = context_of p in
      taken_apart context (characters (text_normalized p text).glyphs) ≡ taken_apart context word
