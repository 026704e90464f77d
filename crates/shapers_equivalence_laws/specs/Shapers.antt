-- The law for each shaper with Unicode's tables.
use Rattle.std.specs.Prelude.{◌≡◌, ◌==◌, ◌&&◌, Bool, true, false, Option, Some}
use Rattle.std.specs.List.{list_any}
use Rattle.rustybuzz_shapers.specs.declared.shaper.hb_ot_shaper_t.{hb_ot_shaper_t}
use Rattle.rustybuzz_shapers.specs.declared.shaper.hb_ot_shaper_t.TheVariants.{Arabic, Hebrew, Khmer}
use Rattle.shapers_base.specs.Font.{Font}
use Rattle.shapers_base.specs.declared.font.GlyphId.{GlyphId}
use Rattle.shapers_base.specs.declared.plan.hb_ot_shape_plan_t.{hb_ot_shape_plan_t}
use Rattle.shapers_buffer.specs.Glyphs.{Glyph, Glyphs}
use Rattle.shapers_buffer.specs.declared.buffer.level.BufferClusterLevel.{BufferClusterLevel}
use Rattle.shapers_buffer.specs.Glyph.{characters}
use Rattle.shapers_khmer.specs.Khmer.{split_vowels}
use Rattle.shapers_normal.specs.Context.{Context}
use Rattle.shapers_normal.specs.Decomposition.{first_round}
use Rattle.shapers_normal.specs.Normalization.{composes, has_rounds, normalized}
use Rattle.shapers_normal.specs.declared.ot_shape_normalize.normalizing.Rounds.{Rounds}
use Rattle.shapers_pipeline.specs.ByShaper.{shaper_context}
use Rattle.shapers_pipeline.specs.TextTables.{TextTables, VariantForms}
use Rattle.shapers_unicode.specs.Answers.{unicode_tables}
use Rattle.shapers_unicode.specs.Classes.{modified_class}
use Rattle.shapers_unicode.specs.Ignorable.{default_ignorable}
use Rattle.shapers_unicode.specs.Pairs.{decomposed}
use Rattle.shapers_equivalence_laws.specs.Equivalence.{CanonicallyEquivalent}
use Rattle.shapers_equivalence_laws.specs.Laws.{AreInOrder, IsPlainText, before_composing, has_short_sequences, mark_class}

-- Unicode's classes and ignorable characters
abbrev pub unicode_texts : TextTables
unicode_texts = record { class = modified_class; ignorable = default_ignorable }

-- a shaper with its plan, a font, and Unicode's tables
abbrev pub unicode_context : Option hb_ot_shaper_t → hb_ot_shape_plan_t → Font → VariantForms →
    Option GlyphId → Bool → Context
unicode_context shaper plan font variants invisible draws_selectors =
    shaper_context shaper plan font variants unicode_tables unicode_texts invisible draws_selectors

-- whether the shaper takes a character of a text apart that Unicode doesn't: Khmer's split vowels
abbrev pub is_split_vowel : Glyph → Bool
is_split_vowel g = list_any (λ v. v == g.glyph_id) split_vowels

abbrev pub has_split_vowel : Option hb_ot_shaper_t → Glyphs → Bool
has_split_vowel (Some Khmer) gs = list_any is_split_vowel gs
has_split_vowel _ gs = false

-- whether a shaper has an order of marks of its own
abbrev pub orders_marks : Option hb_ot_shaper_t → Bool
orders_marks (Some Arabic) = true
orders_marks (Some Hebrew) = true
orders_marks _ = false

-- Whatever the font has, the second round leaves a text canonically equivalent to what it was, and
-- so does the third, if marks are in order then.
abbrev pub ShapersNormalizeEquivalently : Type 0
ShapersNormalizeEquivalently = (shaper : Option hb_ot_shaper_t) (plan : hb_ot_shape_plan_t)
    (font : Font) (variants : VariantForms) (invisible : Option GlyphId) (draws_selectors : Bool)
    (rounds : Rounds) (level : BufferClusterLevel) (gs : Glyphs) →
    has_split_vowel shaper gs ≡ false →
    let context = unicode_context shaper plan font variants invisible draws_selectors in
    IsPlainText context gs →
    CanonicallyEquivalent decomposed (mark_class context)
    (characters (before_composing context level gs)) (characters gs)
    × (((has_rounds rounds gs && composes context.mode) ≡ true →
    AreInOrder context (before_composing context level gs)) →
    CanonicallyEquivalent decomposed (mark_class context)
    (characters (normalized context rounds level gs)) (characters gs))

-- They are, for a shaper without an order of its own, where no sequence is longer than 32 marks.
abbrev pub ShapersKeepTexts : Type 0
ShapersKeepTexts = (shaper : Option hb_ot_shaper_t) (plan : hb_ot_shape_plan_t)
    (font : Font) (variants : VariantForms) (invisible : Option GlyphId) (draws_selectors : Bool)
    (rounds : Rounds) (level : BufferClusterLevel) (gs : Glyphs) →
    has_split_vowel shaper gs ≡ false → orders_marks shaper ≡ false →
    let context = unicode_context shaper plan font variants invisible draws_selectors in
    IsPlainText context gs → has_short_sequences (first_round context level gs) ≡ true →
    CanonicallyEquivalent decomposed (mark_class context)
    (characters (normalized context rounds level gs)) (characters gs)
