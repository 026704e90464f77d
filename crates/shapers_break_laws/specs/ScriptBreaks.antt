-- Where a text of a syllabic shaper may be broken, by the shaper's own pauses.
use Rattle.std.specs.Prelude.{◌%◌, ◌≤◌, ◌≡◌, true, List, All, Option, None, Some, length}
use Rattle.shapers_buffer.specs.Glyphs.{Glyphs}
use Rattle.shapers_buffer.specs.declared.buffer.syllables.Span.{Span}
use Rattle.shapers_buffer.specs.Buffer.{Buffer}
use Rattle.shapers_buffer.specs.Clusters.{merges}
use Rattle.shapers_buffer.specs.Glyph.{clusters}
use Rattle.shapers_buffer.specs.Syllables.{spans_cover}
use Rattle.shapers_base.specs.Font.{Font}
use Rattle.shapers_base.specs.Map.{Map}
use Rattle.shapers_base.specs.declared.plan.arabic.arabic_shape_plan_t.{arabic_shape_plan_t}
use Rattle.shapers_base.specs.declared.plan.hb_ot_shape_plan_t.{hb_ot_shape_plan_t}
use Rattle.shapers_base.specs.declared.plan.pause.Pause.{Pause}
use Rattle.shapers_base.specs.declared.plan.pause.Pause.TheVariants.{ReorderUse, SetupSyllablesUse}
use Rattle.shapers_clusters.specs.Cuts.{IsMonotone}
use Rattle.shapers_syllabic.specs.Borders.{unnumbered}
use Rattle.shapers_syllabic.specs.ReorderingLaws.{paused_clusters, paused_order}
use Rattle.shapers_syllabic.specs.Syllabic.{unsafe_spans}
use Rattle.shapers_universal.specs.PlanData.{arabic_of}
use Rattle.shapers_universal.specs.UniversalLaws.{setup_by_spans, without_serial_or_forms}
use Rattle.shapers_universal.specs.UniversalSyllables.{all_forms, form_masks}
use Rattle.rustybuzz_shapers.specs.Monotone.{AtMostOneRepha}
use Rattle.rustybuzz_shapers.specs.Pauses.{Paused, Reordering, by_myanmar, by_universal}
use Rattle.shapers_break_laws.specs.PauseBreaks.{BreaksBetweenSpans}

-- what the laws require of a text and its spans: spans of kinds up to 15 that cover it, clusters
-- that rise or fall along it, and a level that merges
pub record CanBreak (spans : List Span) (old : Buffer) : Type 0 where
  pub kinds : All (λ span. span.kind ≤ 15) spans
  pub covered : spans_cover (length old.glyphs) spans ≡ true
  pub merging : merges old.level ≡ true
  pub monotone : IsMonotone (clusters old.glyphs)

-- A set-up by spans and the reordering that runs directly after it, with what it goes by: the text
-- may be broken at every clear place. Where circles open behind rephas, no syllable may open with
-- two of these, as none of a grammar does.
abbrev pub PausesBreakBy : Pause → Pause → (hb_ot_shape_plan_t → Font → Buffer → Reordering) →
    Type 0
PausesBreakBy setup pause by = (plan : hb_ot_shape_plan_t) (font : Font) (spans unread : List Span)
    (old mid new : Buffer) → CanBreak spans old →
    AtMostOneRepha (by plan font mid).circles mid.glyphs →
    Paused setup plan font spans old mid →
    Paused pause plan font unread mid new →
    let r = by plan font mid in
    BreaksBetweenSpans unnumbered unsafe_spans (paused_order r.circles r.order)
    (paused_clusters r.circles r.steps old.level) spans old.glyphs new.glyphs

-- the masks of forms, where a set-up gives any, have no glyph flag and fit their 32 bits
abbrev pub FormsOffFlags : Option arabic_shape_plan_t → Map → Type 0
FormsOffFlags None m =
    (all_forms (form_masks m) % 8 ≡ 0) × (all_forms (form_masks m) ≤ 0xFFFFFFFF)
FormsOffFlags (Some p) m = Unit {0}

-- the circles of Myanmar open behind no repha
abbrev pub MyanmarHasNoRepha : Type 0
MyanmarHasNoRepha =
    (font : Font) (b : Buffer) (gs : Glyphs) →
    AtMostOneRepha (by_myanmar font b).circles gs

-- so in the universal shaper, masks of forms apart, which depend on the syllables beside
abbrev pub UniversalPausesBreak : Type 0
UniversalPausesBreak = (plan : hb_ot_shape_plan_t) (font : Font) (spans unread : List Span)
    (old mid new : Buffer) → CanBreak spans old →
    FormsOffFlags (arabic_of plan.plan_data) plan.ot_map →
    AtMostOneRepha (by_universal font mid).circles mid.glyphs →
    Paused SetupSyllablesUse plan font spans old mid →
    Paused ReorderUse plan font unread mid new →
    let r = by_universal font mid in
    BreaksBetweenSpans (without_serial_or_forms plan.plan_data plan.ot_map)
    (setup_by_spans plan.plan_data plan.ot_map) (paused_order r.circles r.order)
    (paused_clusters r.circles r.steps old.level) spans old.glyphs new.glyphs
