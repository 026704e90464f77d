-- The set-up of syllables in the universal shaper, cut between two spans. The form of a syllable
-- depends on its neighbours, so masks of forms are left out, and with Sound the flags by them.
use Rattle.std.specs.Prelude.{ℕ, ◌-◌, bit_and, List, map, Option, None, Some}
use Rattle.shapers_buffer.specs.Glyphs.{Glyph, Glyphs}
use Rattle.shapers_buffer.specs.declared.buffer.syllables.Span.{Span}
use Rattle.shapers_buffer.specs.Buffer.{Buffer}
use Rattle.shapers_buffer.specs.Glyph.{without_flags}
use Rattle.shapers_base.specs.Map.{Map}
use Rattle.shapers_base.specs.declared.plan.PlanData.{PlanData}
use Rattle.shapers_base.specs.declared.plan.arabic.arabic_shape_plan_t.{arabic_shape_plan_t}
use Rattle.shapers_base.specs.declared.plan.breaks.BreakFlags.{BreakFlags}
use Rattle.shapers_base.specs.declared.plan.breaks.BreakFlags.TheVariants.{AsCode, Sound}
use Rattle.shapers_syllabic.specs.declared.ot_shaper_syllabic.kinds.use_syllable.TheConstants.{BROKEN_CLUSTER}
use Rattle.shapers_syllabic.specs.Borders.{SetupCuts}
use Rattle.shapers_syllabic.specs.ReorderingLaws.{with_mask_by}
use Rattle.shapers_syllabic.specs.Syllabic.{unsafe_spans}
use Rattle.shapers_universal.specs.PlanData.{arabic_of}
use Rattle.shapers_universal.specs.UniversalSyllables.{all_forms, form_masks, forms_flagged, with_syllable_masks}

-- the glyph without the masks of forms; with a plan of Arabic there are none
abbrev pub formless_for : Option arabic_shape_plan_t → Map → Glyph → Glyph
formless_for None m g = record g { mask = bit_and g.mask (0xFFFFFFFF - all_forms (form_masks m)) }
formless_for (Some p) m g = g

-- a mask as far as it is the same in halves: where Sound flags by forms, without glyph flags
abbrev pub flagless_for : Option arabic_shape_plan_t → BreakFlags → ℕ → ℕ
flagless_for (Some p) breaks mask = mask
flagless_for None AsCode mask = mask
flagless_for None Sound mask = without_flags mask

-- so a glyph, without the masks of forms
abbrev pub cut_view : BreakFlags → PlanData → Map → Glyph → Glyph
cut_view breaks kept m g =
    with_mask_by (flagless_for (arabic_of kept) breaks) (formless_for (arabic_of kept) m g)

-- what spans set up of glyphs, as far as this view shows it
abbrev pub formless_setup : BreakFlags → PlanData → Map → List Span → Glyphs →
    Glyphs
formless_setup breaks kept m spans gs =
    let setup = with_syllable_masks kept m (unsafe_spans spans gs) in
    map (cut_view breaks kept m) (forms_flagged (arabic_of kept) breaks m setup)

-- the set-up cut between any two spans, in this view
abbrev pub UniversalSetupCutsAtSpans : BreakFlags → PlanData → Map → List Span → Buffer → Buffer →
    Type 0
UniversalSetupCutsAtSpans breaks kept m spans old new =
    let shown = map (cut_view breaks kept m) new.glyphs in
    SetupCuts (formless_setup breaks kept m) BROKEN_CLUSTER spans shown old new
