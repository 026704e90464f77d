-- Words that stay canonically equivalent.
use Rattle.std.specs.Prelude.{ℕ, ◌≡◌, true, false, nat_lt, Bool, List, Option, None}
use Rattle.std.specs.List.{list_all}
use Rattle.shapers_base.specs.Font.{Font}
use Rattle.shapers_base.specs.declared.plan.hb_ot_shape_plan_t.{hb_ot_shape_plan_t}
use Rattle.shapers_bench.specs.Words.{letters_from}
use Rattle.shapers_buffer.specs.Buffer.{Buffer}
use Rattle.rustybuzz_shapers.specs.declared.shaper.hb_ot_shaper_t.{hb_ot_shaper_t}
use Rattle.shapers_equivalence_laws.specs.Equivalence.{fully_decomposed, ordered_by_classes}
use Rattle.shapers_equivalence_laws.specs.Laws.{mark_class}
use Rattle.shapers_equivalence_laws.specs.Shapers.{unicode_context}
use Rattle.shapers_normal.specs.Context.{Context}
use Rattle.shapers_normal.specs.Normalization.{normalized}
use Rattle.shapers_normal.specs.declared.ot_shape_normalize.normalizing.Rounds.TheVariants.{Always}
use Rattle.shapers_prepare.specs.GlyphProperties.{properties_set}
use Rattle.shapers_prepare.specs.UnicodeValues.{unicode_properties}
use Rattle.shapers_pipeline.specs.TextTables.{VariantForms}
use Rattle.shapers_unicode.specs.Pairs.{decomposed}

-- whether a character stands before the surrogates, as all do that a script of today needs
abbrev pub is_low : ℕ → Bool
is_low c = nat_lt c 0xD800

abbrev pub are_low : List ℕ → Bool
are_low word = list_all is_low word

-- what normalization reads of a shaper, by Unicode's tables, where nothing is drawn for what isn't
abbrev pub context_by : Option hb_ot_shaper_t → hb_ot_shape_plan_t → Font → VariantForms → Context
context_by shaper plan font variants = unicode_context shaper plan font variants None false

-- A word of such characters in a buffer, with the properties of its characters, normalized.
pub record IsNormalized (shaper : Option hb_ot_shaper_t) (font : Font) (variants : VariantForms)
    (word : List ℕ) (b : Buffer) : Type 0 where
  pub plan : hb_ot_shape_plan_t
  pub low : are_low word ≡ true
  pub glyphs : b.glyphs
      ≡ normalized (context_by shaper plan font variants) Always b.level
      (properties_set unicode_properties (letters_from 0 word))

-- characters taken apart to the end, each sequence of marks in the order of its classes
abbrev pub taken_apart : Context → List ℕ → List ℕ
taken_apart context cs = ordered_by_classes (mark_class context) (fully_decomposed decomposed cs)

-- so two texts are the same, by the classes that the shapers have
abbrev pub AreEquivalent : Font → VariantForms → List ℕ → List ℕ → Type 0
AreEquivalent font variants cs ds = (plan : hb_ot_shape_plan_t) →
    let context = context_by None plan font variants in
    taken_apart context cs ≡ taken_apart context ds
