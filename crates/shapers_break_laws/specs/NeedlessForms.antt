-- None of the flags that Sound adds between syllables of the universal shaper is needless.
use Rattle.std.specs.Prelude.{ℕ, ◌<◌, ◌≤◌, ◌≡◌, ◌&&◌, nat_lt, false, true, List, All, None, length}
use Rattle.std.specs.List.{list_any}
use Rattle.shapers_buffer.specs.Glyphs.{Glyphs}
use Rattle.shapers_buffer.specs.declared.buffer.syllables.Span.{Span}
use Rattle.shapers_buffer.specs.Buffer.{Buffer}
use Rattle.shapers_buffer.specs.Syllables.{spans_cover, syllables}
use Rattle.shapers_base.specs.Font.{Font}
use Rattle.shapers_base.specs.Map.{Map}
use Rattle.shapers_base.specs.declared.plan.PlanData.{PlanData}
use Rattle.shapers_base.specs.declared.plan.hb_ot_shape_plan_t.{hb_ot_shape_plan_t}
use Rattle.shapers_base.specs.declared.plan.pause.Pause.TheVariants.{SetupSyllablesUse}
use Rattle.shapers_universal.specs.PlanData.{arabic_of}
use Rattle.shapers_universal.specs.UniversalLaws.{setup_by_spans}
use Rattle.shapers_universal.specs.UniversalSyllables.{form_masks, torn_pairs}
use Rattle.rustybuzz_shapers.specs.Pauses.{Paused}
use Rattle.shapers_break_laws.specs.ScriptBreaks.{FormsOffFlags}
use Rattle.shapers_break_laws.specs.UniversalSound.{SoundlyBroken}

-- place p is inside a stretch over two syllables that Sound flags
abbrev pub IsTornAt : PlanData → Map → List Span → Glyphs → ℕ → Type 0
IsTornAt kept m spans gs p =
    let setup = setup_by_spans kept m spans gs in
    let stretches = torn_pairs (form_masks m) false 0 (syllables setup) in
    list_any (λ st. nat_lt st.0 p && nat_lt p st.1) stretches ≡ true

-- Where letters don't join, the set-up can't be broken there, whatever the choice and the clusters:
-- a half would have the mask of another form. Masks of forms that are glyph flags wouldn't show.
abbrev pub NoFormFlagIsNeedless : Type 0
NoFormFlagIsNeedless = (plan : hb_ot_shape_plan_t) (font : Font) (spans : List Span)
    (old new : Buffer) →
    All (λ span. span.kind ≤ 15) spans → spans_cover (length old.glyphs) spans ≡ true →
    arabic_of plan.plan_data ≡ None → FormsOffFlags (arabic_of plan.plan_data) plan.ot_map →
    Paused SetupSyllablesUse plan font spans old new →
    (p : ℕ) → 0 < p → p < length new.glyphs →
    IsTornAt plan.plan_data plan.ot_map spans old.glyphs p →
    SoundlyBroken plan.plan_data plan.ot_map spans p old new → ⊥
