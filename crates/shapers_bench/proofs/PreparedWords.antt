-- A word that is prepared for the lookups of a font.
use Rattle.std.proofs.Common.{◌≡◌, ◌≤◌, ◌∙◌, ◌||◌, ℕ, suc, true, false, List, [], ◌∷◌, length, Some, codes, refl, ap, arith}
use Rattle.std.specs.List.{list_any}
use Rattle.std.proofs.lemmas.List.{length-map}
use Rattle.shapers_base.specs.Font.{Font}
use Rattle.shapers_base.specs.declared.plan.hb_ot_shape_plan_t.{hb_ot_shape_plan_t}
use Rattle.shapers_buffer.specs.Buffer.{Buffer, asks}
use Rattle.shapers_buffer.specs.Glyph.{characters}
use Rattle.shapers_buffer.specs.Glyphs.{Glyph}
use Rattle.shapers_buffer.specs.declared.buffer.level.Direction.TheVariants.{LeftToRight}
use Rattle.shapers_buffer.specs.declared.buffer.tag.Script.{Script}
use Rattle.shapers_equivalence_laws.specs.Equivalence.{OrdersAlike, fully_decomposed}
use Rattle.shapers_equivalence_laws.specs.Laws.{has_short_sequences, mark_class}
use Rattle.shapers_equivalence_laws.specs.PreparedTexts.{PreparedTextsArePlain, ShortTextsStayEquivalent, TextsAreHandedOver, before_normalization}
use Rattle.shapers_normal.specs.Context.{Context}
use Rattle.shapers_normal.specs.Decomposition.{first_round}
use Rattle.shapers_normal.specs.Sorting.{class_of, classes}
use Rattle.shapers_normal.specs.Variants.{is_selector_glyph, selects_form}
use Rattle.shapers_normal.proofs.VariantHalves.{grows_ninefold}
use Rattle.shapers_pipeline.specs.Planned.{as_planned, put_back}
use Rattle.shapers_pipeline.specs.Prepared.{Preparation, context_of, text_normalized, text_prepared}
use Rattle.shapers_pipeline.specs.TextTables.{VariantForms}
use Rattle.shapers_prepare.specs.FirstCircle.{begins_text}
use Rattle.shapers_prepare.specs.NativeDirection.{native_direction}
use Rattle.shapers_unicode.specs.Pairs.{decomposed}
use Rattle.shapers_bench.specs.EquivalentWords.{taken_apart}
use Rattle.shapers_bench.specs.PreparedWords.{IsPreparedWord, prepared_with}
use Rattle.shapers_bench.specs.Words.{letters_from, word_in}
use Rattle.shapers_bench.proofs.EquivalentWords.{runs-within}

letters-select : (n : ℕ) (word : List ℕ) → list_any is_selector_glyph (letters_from n word) ≡ list_any selects_form word
letters-select n [] = refl
letters-select n (c ∷ cs) = ap (λ b. selects_form c || b) (letters-select (suc n) cs)

letters-of : (n : ℕ) (word : List ℕ) → characters (letters_from n word) ≡ word
letters-of n [] = refl
letters-of n (c ∷ cs) = ap (λ ds. c ∷ ds) (letters-of (suc n) cs)

-- the script of the plan
abbrev pub latin : Script
latin = record { 0 = codes "Latn" }

pub prepared-word : TextsAreHandedOver → PreparedTextsArePlain → ShortTextsStayEquivalent → OrdersAlike
    → (plan : hb_ot_shape_plan_t) (font : Font) (variants : VariantForms) (room : ℕ) (word : List ℕ) (old new : Buffer)
    → plan.script ≡ Some latin → length word ≤ 3 → list_any selects_form word ≡ false → old ≡ word_in room word
    → new ≡ put_back old (text_prepared (prepared_with plan font variants) (as_planned plan.script LeftToRight old))
    → IsPreparedWord font variants word new
prepared-word handed plain short alike plan font variants room word old new scripted few without begun made = record {
  plan = plan;
  text = text;
  made = ap (λ (b : Buffer). b.glyphs) made;
  plain = plain p text unselected refl;
  handed_over = same;
  equivalent = alike (mark_class context) (fully_decomposed decomposed (characters (text_normalized p text).glyphs))
      (fully_decomposed decomposed (characters between.glyphs)) (short p text unselected refl refl refl shortly)
      ∙ ap (taken_apart context) same;
}
  where
    p : Preparation
    p = prepared_with plan font variants

    context : Context
    context = context_of p

    text : Buffer
    text = as_planned plan.script LeftToRight old

    between : Buffer
    between = before_normalization p text

    unselected : list_any is_selector_glyph text.glyphs ≡ false
    unselected = ap (λ (b : Buffer). list_any is_selector_glyph b.glyphs) begun ∙ (letters-select 0 word ∙ without)

    same : characters between.glyphs ≡ word
    same = handed p text refl (ap (λ (b : Buffer). asks begins_text b) begun) refl (ap native_direction scripted)
        ∙ (ap (λ (b : Buffer). characters b.glyphs) begun ∙ letters-of 0 word)

    shortly : has_short_sequences (first_round context between.level between.glyphs) ≡ true
    shortly =
        let gs = between.glyphs in
        let hs = first_round context between.level gs in
        let many = ap length same in
        runs-within 0 0 (classes hs) (omega arith)
        (omega (
          arith,
          few,
          many,
          length-map gs (λ (g : Glyph). g.glyph_id),
          grows_ninefold context between.level gs,
          length-map hs class_of,
        ))
