-- The cut between spans. For each shaper of syllables a set-up and the reordering pauses that run
-- directly after it, no substitution between: cut between any two spans, they give what they give
-- on the halves, one after the other. The halves' bytes may have other serials, as long as
-- neighbouring syllables differ; masks of forms and the bits of `init` are left out where two
-- syllables share them.
use Rattle.std.specs.Prelude.{◌≤◌, List, All}
use Rattle.shapers_buffer.specs.Buffer.{Buffer}
use Rattle.shapers_buffer.specs.declared.buffer.syllables.Span.{Span}
use Rattle.shapers_base.specs.Font.{Font}
use Rattle.shapers_base.specs.declared.plan.hb_ot_shape_plan_t.{hb_ot_shape_plan_t}
use Rattle.shapers_base.specs.declared.plan.pause.Pause.{Pause}
use Rattle.shapers_base.specs.declared.plan.pause.Pause.TheVariants.{SetupSyllablesIndic, SetupSyllablesUse, InitialReordering, ReorderUse, FinalReordering}
use Rattle.shapers_indic.specs.Plan.{indic_in}
use Rattle.shapers_indic_final.specs.FinalCuts.{final_after, final_clusters_after, uninitiated}
use Rattle.shapers_indic_final.specs.FinalRules as final
use Rattle.shapers_syllabic.specs.Borders.{unnumbered}
use Rattle.shapers_syllabic.specs.ReorderingLaws.{paused_clusters, paused_order}
use Rattle.shapers_syllabic.specs.SpanCuts.{CutsBetweenSpans}
use Rattle.shapers_syllabic.specs.Syllabic.{unsafe_spans}
use Rattle.shapers_universal.specs.UniversalLaws.{setup_by_spans, without_serial_or_forms}
use Rattle.rustybuzz_shapers.specs.Pauses.{Paused, Reordering, by_initial, by_universal}

-- a set-up by spans and the reordering that runs directly after it, with what it goes by
abbrev pub IsCut : Pause → Pause → (hb_ot_shape_plan_t → Font → Buffer → Reordering) → Type 0
IsCut setup pause by = (plan : hb_ot_shape_plan_t) (font : Font) (spans unread : List Span)
    (old mid new : Buffer) → All (λ span. span.kind ≤ 15) spans →
    Paused setup plan font spans old mid →
    Paused pause plan font unread mid new →
    let r = by plan font mid in
    CutsBetweenSpans unnumbered unsafe_spans (paused_order r.circles r.order)
    (paused_clusters r.circles r.steps old.level) spans old.glyphs new.glyphs

-- in the universal shaper the halves are set up with the masks of rphf and of forms
abbrev pub UniversalIsCut : Type 0
UniversalIsCut = (plan : hb_ot_shape_plan_t) (font : Font) (spans unread : List Span)
    (old mid new : Buffer) → All (λ span. span.kind ≤ 15) spans →
    Paused SetupSyllablesUse plan font spans old mid →
    Paused ReorderUse plan font unread mid new →
    let r = by_universal font mid in
    CutsBetweenSpans (without_serial_or_forms plan.plan_data plan.ot_map)
    (setup_by_spans plan.plan_data plan.ot_map) (paused_order r.circles r.order)
    (paused_clusters r.circles r.steps old.level) spans old.glyphs new.glyphs

-- in Indic after both reorderings
abbrev pub IndicIsCutAfterBoth : Type 0
IndicIsCutAfterBoth = (plan : hb_ot_shape_plan_t) (font : Font) (spans unread : List Span)
    (old mid reordered new : Buffer) → All (λ span. span.kind ≤ 15) spans →
    Paused SetupSyllablesIndic plan font spans old mid →
    Paused InitialReordering plan font unread mid reordered →
    Paused FinalReordering plan font unread reordered new →
    let r = by_initial plan font mid in
    let rules = final.final_rules font (indic_in plan) in
    CutsBetweenSpans (uninitiated rules) unsafe_spans
    (final_after rules old.script r.circles r.order)
    (final_clusters_after rules old.script old.level r.circles r.order r.steps)
    spans old.glyphs new.glyphs
