-- A text gets no positions before its lookups.
use Rattle.std.proofs.Common.{◌≡◌, ◌∙◌, true, false, refl}
use Rattle.std.specs.Prelude.{Option, None, Some, if◌then◌else◌}
use Rattle.shapers_base.specs.Font.{CharacterTables, Font}
use Rattle.shapers_base.specs.declared.plan.arabic.arabic_shape_plan_t.{arabic_shape_plan_t}
use Rattle.shapers_base.specs.declared.plan.hb_ot_shape_plan_t.{hb_ot_shape_plan_t}
use Rattle.shapers_buffer.specs.Buffer.{Buffer}
use Rattle.shapers_pipeline.specs.Prepared.{Preparation, text_circled, text_directed, text_in_fractions, text_prepared}
use Rattle.shapers_pipeline.specs.ShaperSteps.{masks_set_for, preprocessed_for, universal_masks_set}
use Rattle.shapers_prepare.specs.Graphemes.{clusters_formed}
use Rattle.shapers_prepare.specs.NativeDirection.{graphemes_reversed, graphemes_whole, in_native_direction, is_reversed, native_direction, opposite_direction, text_direction}
use Rattle.shapers_universal.specs.PlanData.{arabic_of}
use Rattle.rustybuzz_shapers.specs.declared.shaper.hb_ot_shaper_t.{hb_ot_shaper_t}
use Rattle.rustybuzz_shapers.specs.declared.shaper.hb_ot_shaper_t.TheVariants.{Arabic, Hangul, Hebrew, Indic, Khmer, Myanmar, MyanmarZawgyi, Thai, Universal}

turned : (b : Buffer) → (in_native_direction b).positions ≡ b.positions
turned b =
    let own = text_direction b.direction (native_direction b.script) b.glyphs in
    let backward : Buffer = record b {
      direction = opposite_direction b.direction;
      glyphs = graphemes_reversed (graphemes_whole b.level b.glyphs);
    } in
    elim (is_reversed b.direction own) as (λ test. (if test then backward else b).positions ≡ b.positions) [
      | true ↦ refl
      | false ↦ refl
    ]

rewritten : (shaper : Option hb_ot_shaper_t) (plan : hb_ot_shape_plan_t) (font : Font) (b : Buffer)
    → (preprocessed_for shaper plan font b).positions ≡ b.positions
rewritten None plan font b = refl
rewritten (Some Arabic) plan font b = refl
rewritten (Some Hangul) plan font b = refl
rewritten (Some Hebrew) plan font b = refl
rewritten (Some Indic) plan font b = refl
rewritten (Some Khmer) plan font b = refl
rewritten (Some Myanmar) plan font b = refl
rewritten (Some MyanmarZawgyi) plan font b = refl
rewritten (Some Thai) plan font b = refl
rewritten (Some Universal) plan font b = refl

masked : (shaper : Option hb_ot_shaper_t) (plan : hb_ot_shape_plan_t) (tables : CharacterTables) (b : Buffer)
    → (masks_set_for shaper plan tables b).positions ≡ b.positions
masked None plan tables b = refl
masked (Some Arabic) plan tables b = refl
masked (Some Hangul) plan tables b = refl
masked (Some Hebrew) plan tables b = refl
masked (Some Indic) plan tables b = refl
masked (Some Khmer) plan tables b = refl
masked (Some Myanmar) plan tables b = refl
masked (Some MyanmarZawgyi) plan tables b = refl
masked (Some Thai) plan tables b = refl
masked (Some Universal) plan tables b = joined (arabic_of plan.plan_data)
  where
    joined : (kept : Option arabic_shape_plan_t)
        → (universal_masks_set kept plan.script tables b).positions ≡ b.positions
    joined None = refl
    joined (Some p) = refl

pub still_unplaced : (p : Preparation) (b : Buffer) → (text_prepared p b).positions ≡ b.positions
still_unplaced p b =
    let opened = text_circled p b in
    masked p.shaper p.plan p.tables (text_in_fractions p b)
    ∙ (rewritten p.shaper p.plan p.font (text_directed p b)
    ∙ turned (record opened { glyphs = clusters_formed opened.level opened.glyphs }))
