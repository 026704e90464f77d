-- What each pause does to the buffer.
use Rattle.std.specs.Option.{option_and_then}
use Rattle.std.specs.Prelude.{◌≡◌, ◌==◌, Bool, true, false, not, List, [], ◌∷◌, ◌++◌, All, map, length, Option, None, Some, unwrap_or, Result, IsOk}
use Rattle.shapers_arabic.specs.PlanData.{IsArabic}
use Rattle.shapers_buffer.specs.Glyph.{clusters, order_view}
use Rattle.shapers_buffer.specs.Glyphs.{Glyphs}
use Rattle.shapers_clusters.specs.Cuts.{ShareNone}
use Rattle.shapers_clusters.specs.FlagLaw.{OnlyFlagsAdded}
use Rattle.shapers_clusters.specs.Laws.{ReorderedHold}
use Rattle.shapers_clusters.specs.Steps.{Step}
use Rattle.shapers_indic.specs.Plan.{indic_in, is_indic_data}
use Rattle.shapers_indic_final.specs.FinalLaws.{FinallyKept}
use Rattle.shapers_indic_final.specs.FinalWordStart.{WordsStarted}
use Rattle.shapers_indic_final.specs.FinalReordering.{final_order, final_steps}
use Rattle.shapers_indic_final.specs.FinalRules as final
use Rattle.shapers_indic_initial.specs.InitialLaws.{InitiallyMerged}
use Rattle.shapers_indic_initial.specs.InitialPause.{InitiallyLinked, InitiallyReordered, initial_circles, initial_refusal, order_by_font, steps_by_font}
use Rattle.shapers_khmer.specs.Khmer.{khmer_circles, khmer_order, khmer_steps, order_in}
use Rattle.shapers_khmer.specs.KhmerMovers.{ordered_by_movers, steps_by_movers}
use Rattle.shapers_khmer.specs.Plan.{is_khmer_data}
use Rattle.shapers_myanmar.specs.Myanmar.{myanmar_circles, myanmar_order, myanmar_steps}
use Rattle.shapers_stretch.specs.Recorded.{has_stch, tiles_recorded}
use Rattle.shapers_syllabic.specs.Borders.{MeetAtBorder, SameButSerials, SetupCutsAtSpans, spans_setup, unnumbered}
use Rattle.shapers_syllabic.specs.CircleLaws.{NoNewCluster}
use Rattle.shapers_syllabic.specs.Circles.{circled}
use Rattle.shapers_syllabic.specs.Reordering.{PauseLinked, PauseReordered, SyllableReordered, carried, script_circles, text_steps}
use Rattle.shapers_syllabic.specs.ReorderingLaws.{PauseCutsAtBorders, TextReordered, paused_carried, paused_clusters, paused_order}
use Rattle.shapers_syllabic.specs.SpanCuts.{CutsAtBorders}
use Rattle.shapers_syllabic.specs.declared.ot_shaper_syllabic.circles.DottedCircles.{DottedCircles}
use Rattle.shapers_syllabic.specs.declared.ot_shaper_syllabic.kinds.indic_syllable.TheConstants as indic_syllable
use Rattle.shapers_syllabic.specs.declared.ot_shaper_syllabic.kinds.khmer_syllable.TheConstants as khmer_syllable
use Rattle.shapers_syllabic.specs.declared.ot_shaper_syllabic.kinds.myanmar_syllable.TheConstants as myanmar_syllable
use Rattle.shapers_universal.specs.PlanData.{is_universal, rphf_of}
use Rattle.shapers_universal.specs.Universal.{universal_order, universal_steps}
use Rattle.shapers_universal.specs.UniversalCuts.{UniversalSetupCutsAtSpans}
use Rattle.shapers_universal.specs.UniversalSyllables.{syllables_setup, with_forms_flagged, with_pref_recorded, with_rphf_recorded}
use Rattle.shapers_universal.specs.UniversalText.{universal_circles}
use Rattle.shapers_buffer.specs.Buffer.{Buffer}
use Rattle.shapers_base.specs.Font.{Font}
use Rattle.shapers_buffer.specs.Refusals.{Refuses, RefusesInput}
use Rattle.shapers_syllabic.specs.Syllabic.{unsubstituted}
use Rattle.shapers_buffer.specs.Syllables.{in_syllable, spans_refusal, unknown_refusal}
use Rattle.shapers_buffer.specs.declared.buffer.refusal.ShaperError.{ShaperError}
use Rattle.shapers_buffer.specs.declared.buffer.syllables.Span.{Span}
use Rattle.shapers_base.specs.declared.plan.hb_ot_shape_plan_t.{hb_ot_shape_plan_t}
use Rattle.shapers_base.specs.declared.plan.pause.Pause.{Pause}
use Rattle.shapers_base.specs.declared.plan.planner.Request.{Request}
use Rattle.shapers_base.specs.declared.plan.planner.Request.TheVariants as request
use Rattle.shapers_buffer.specs.declared.buffer.tag.Script.{Script}
use Rattle.rustybuzz_shapers.specs.Records.{collected, overridden}
use Rattle.rustybuzz_shapers.specs.declared.shaper.hb_ot_shaper_t.{hb_ot_shaper_t}
use Rattle.shapers_base.specs.declared.plan.pause.Pause.TheVariants.{SetupSyllablesIndic, SetupSyllablesKhmer, SetupSyllablesMyanmar, SetupSyllablesUse, InitialReordering, ReorderKhmer, ReorderMyanmar, ReorderUse, FinalReordering, RecordStch, RecordRphf, RecordPref, SyllabicClearVar, ClearSubstitutionFlags, ArabicFallbackShape}

-- the plan's data are of the kind that the pause reads
abbrev pub PauseFits : Pause → hb_ot_shape_plan_t → Type 0
PauseFits SetupSyllablesUse plan = is_universal plan.plan_data ≡ true
PauseFits InitialReordering plan = is_indic_data plan.plan_data ≡ true
PauseFits ReorderKhmer plan = is_khmer_data plan.plan_data ≡ true
PauseFits FinalReordering plan = is_indic_data plan.plan_data ≡ true
PauseFits RecordStch plan = IsArabic plan.plan_data
PauseFits RecordRphf plan = is_universal plan.plan_data ≡ true
PauseFits _ plan = Unit {0}

-- the pauses among requests
abbrev pub pauses_in : List Request → List Pause
pauses_in [] = []
pauses_in (request.Pause (Some pause) ∷ rs) = pause ∷ pauses_in rs
pauses_in (request.Pause None ∷ rs) = pauses_in rs
pauses_in (request.Feature tag flags value ∷ rs) = pauses_in rs

-- the plan's data are of the kind that each pause in a shaper's lists reads, whichever those are
abbrev pub PausesFit : hb_ot_shaper_t → hb_ot_shape_plan_t → Type 0
PausesFit shaper plan = (script : Option Script) (has_rclt : Bool) →
    All (λ p. PauseFits p plan) (pauses_in (unwrap_or (collected shaper script has_rclt) []))
    × All (λ p. PauseFits p plan) (pauses_in (unwrap_or (overridden shaper) []))

-- What a reordering goes by: circles, what each syllable becomes, the merges and moves to that.
pub record Reordering : Type 0 where
  pub circles : Option DottedCircles
  pub order : Glyphs → Glyphs
  pub steps : Glyphs → List Step

-- the initial reordering of Indic, each syllable with positions by the font; and the final one
abbrev pub by_initial : hb_ot_shape_plan_t → Font → Buffer → Reordering
by_initial plan font b = record {
  circles = initial_circles font b;
  order = order_by_font font plan.ot_map (indic_in plan) b.script;
  steps = steps_by_font font plan.ot_map (indic_in plan) b.script;
}

abbrev pub by_final : hb_ot_shape_plan_t → Font → Buffer → Reordering
by_final plan font b = record {
  circles = None;
  order = final_order (final.final_rules font (indic_in plan)) b.script;
  steps = final_steps (final.final_rules font (indic_in plan)) b.script;
}

-- those of Khmer, Myanmar and the universal shaper
abbrev pub by_khmer : hb_ot_shape_plan_t → Font → Buffer → Reordering
by_khmer plan font b = record {
  circles = script_circles khmer_circles font b;
  order = khmer_order (order_in plan.plan_data);
  steps = khmer_steps;
}

abbrev pub by_myanmar : Font → Buffer → Reordering
by_myanmar font b = record {
  circles = script_circles myanmar_circles font b;
  order = myanmar_order;
  steps = myanmar_steps;
}

abbrev pub by_universal : Font → Buffer → Reordering
by_universal font b = record {
  circles = script_circles universal_circles font b;
  order = universal_order;
  steps = universal_steps;
}

-- that of Khmer again, where a regular syllable is what its movers make of it
abbrev pub by_khmer_movers : hb_ot_shape_plan_t → Font → Buffer → Reordering
by_khmer_movers plan font b = record (by_khmer plan font b) {
  order = ordered_by_movers (order_in plan.plan_data);
  steps = steps_by_movers;
}

-- what each pause goes by, if it reorders
abbrev pub reordering_of : Pause → hb_ot_shape_plan_t → Font → Buffer → Option Reordering
reordering_of InitialReordering plan font b = Some (by_initial plan font b)
reordering_of ReorderKhmer plan font b = Some (by_khmer plan font b)
reordering_of ReorderMyanmar plan font b = Some (by_myanmar font b)
reordering_of ReorderUse plan font b = Some (by_universal font b)
reordering_of FinalReordering plan font b = Some (by_final plan font b)
reordering_of _ plan font b = None

-- the dotted circles that it opens, if any: true is returned exactly where circles are wanted
abbrev pub pause_circles : Pause → hb_ot_shape_plan_t → Font → Buffer → Option DottedCircles
pause_circles pause plan font b = option_and_then (λ r. r.circles) (reordering_of pause plan font b)

-- the buffer before and after a reordering: circles come, and each syllable becomes what it goes by
abbrev pub Reordered : Reordering → Buffer → Buffer → Type 0
Reordered r old new = PauseReordered r.circles r.order r.steps old new

-- the buffer after the final reordering of Indic: what that made of it, each syllable then opened
abbrev pub ThenStarted : hb_ot_shape_plan_t → Font → (Buffer → Type 0) → Buffer → Type 0
ThenStarted plan font made new =
    (mid : Buffer) × made mid × WordsStarted (final.final_rules font (indic_in plan)).init mid new

-- the buffer before and after the pause; where it reorders, the placement list is empty then
abbrev pub Paused : Pause → hb_ot_shape_plan_t → Font → List Span → Buffer → Buffer → Type 0
Paused SetupSyllablesIndic plan font spans old new =
    new ≡ spans_setup spans indic_syllable.BROKEN_CLUSTER old
Paused SetupSyllablesKhmer plan font spans old new =
    new ≡ spans_setup spans khmer_syllable.BROKEN_CLUSTER old
Paused SetupSyllablesMyanmar plan font spans old new =
    new ≡ spans_setup spans myanmar_syllable.BROKEN_CLUSTER old
Paused SetupSyllablesUse plan font spans old new =
    new ≡ with_forms_flagged plan.break_flags plan.plan_data plan.ot_map
    (syllables_setup plan.plan_data plan.ot_map spans old)
Paused InitialReordering plan font spans old new =
    Reordered (by_initial plan font old) old new
    × InitiallyReordered font plan.ot_map (indic_in plan) old new
Paused ReorderKhmer plan font spans old new = Reordered (by_khmer plan font old) old new
Paused ReorderMyanmar plan font spans old new = Reordered (by_myanmar font old) old new
Paused ReorderUse plan font spans old new = Reordered (by_universal font old) old new
Paused FinalReordering plan font spans old new =
    ThenStarted plan font (Reordered (by_final plan font old) old) new
Paused RecordStch plan font spans old new = new ≡ tiles_recorded plan.plan_data old
Paused RecordRphf plan font spans old new = new ≡ with_rphf_recorded (rphf_of plan.plan_data) old
Paused RecordPref plan font spans old new = new ≡ with_pref_recorded old
Paused SyllabicClearVar plan font spans old new =
    new ≡ record old { glyphs = map (in_syllable 0) old.glyphs }
Paused ClearSubstitutionFlags plan font spans old new =
    new ≡ record old { glyphs = map unsubstituted old.glyphs }
Paused ArabicFallbackShape plan font spans old new = new ≡ old

-- whether the pause may change a buffer under a plan: to record tiles only where the font stretches
-- marks, rphf only where the plan has a mask for it, the fallback of Arabic never, others always
abbrev pub may_change : Pause → hb_ot_shape_plan_t → Bool
may_change RecordStch plan = has_stch plan.plan_data
may_change RecordRphf plan = not (rphf_of plan.plan_data == 0)
may_change ArabicFallbackShape plan = false
may_change _ plan = true

-- whether the pause sets up or reorders syllables: all but the records, the two that clear, and the
-- fallback of Arabic
abbrev pub is_syllabic : Pause → Bool
is_syllabic RecordStch = false
is_syllabic RecordRphf = false
is_syllabic RecordPref = false
is_syllabic SyllabicClearVar = false
is_syllabic ClearSubstitutionFlags = false
is_syllabic ArabicFallbackShape = false
is_syllabic _ = true

-- whatever the font, spans and buffer, the pause leaves the buffer as it is
abbrev pub PauseStays : Pause → hb_ot_shape_plan_t → Type 0
PauseStays pause plan =
    (font : Font) (spans : List Span) (old new : Buffer) →
    Paused pause plan font spans old new → new ≡ old

-- Where halves of a text meet at a border of syllables and share no cluster, what is carried along,
-- clusters and glyph flags too, is the halves' joined, serials apart, whatever theirs are.
abbrev pub CarriedAtBorders : Reordering → Buffer → Buffer → Type 0
CarriedAtBorders r old new = (gs hs xs ys : Glyphs) →
    old.glyphs ≡ gs ++ hs → MeetAtBorder gs hs → SameButSerials gs xs → SameButSerials hs ys →
    ShareNone gs hs →
    map unnumbered (map carried new.glyphs)
    ≡ map unnumbered (paused_carried r.circles r.steps old.level xs)
    ++ map unnumbered (paused_carried r.circles r.steps old.level ys)

-- What every reordering keeps. A text cut at a border of syllables gives the halves' results
-- joined, serials apart where theirs are others; where they share no cluster, glyph flags too. No
-- glyph is lost, no cluster rises, glyph flags stay unless it fell, what shared one still does: the
-- laws of steps, from after circles on. Every cluster is one from before the circles.
pub record ReorderingKeeps (r : Reordering) (old new : Buffer) : Type 0 where
  pub cuts : PauseCutsAtBorders r.circles r.order r.steps old new
  pub renumbered : CutsAtBorders unnumbered (paused_order r.circles r.order)
      (paused_clusters r.circles r.steps old.level) old.glyphs new.glyphs
  pub flags_joined : CarriedAtBorders r old new
  pub text : TextReordered r.steps (record old { glyphs = circled r.circles old.glyphs }) new
  pub old_clusters : NoNewCluster old.glyphs new.glyphs

-- and where syllables move only inside what they merged first: exact cuts and the cluster law
abbrev pub MergedFirst : Reordering → Buffer → Buffer → Type 0
MergedFirst r old new =
    let opened = circled r.circles old.glyphs in
    ReorderedHold carried old.level (text_steps r.steps (order_view opened)) opened new.glyphs

-- a chain leads there, one link a syllable: each is reordered for itself
abbrev pub OneByOne : Reordering → Buffer → Buffer → Type 0
OneByOne r old new = PauseLinked r.circles (SyllableReordered r.order r.steps) old new

-- The laws of a pause: spans may be cut between any two, and texts at any border of syllables; what
-- becomes of clusters and glyph flags. What doesn't reorder leaves clusters, and only adds flags.
-- What reorders does so by syllables. In Indic clusters merge by the cycles of the initial order,
-- and by the moves of the final one, behind which syllables are opened. In Khmer the movers of a
-- regular syllable come to its front.
abbrev pub PauseKeeps : Pause → hb_ot_shape_plan_t → Font → List Span → Buffer → Buffer → Type 0
PauseKeeps SetupSyllablesIndic plan font spans old new =
    SetupCutsAtSpans spans indic_syllable.BROKEN_CLUSTER old new
    × (clusters new.glyphs ≡ clusters old.glyphs) × OnlyFlagsAdded old.glyphs new.glyphs
PauseKeeps SetupSyllablesKhmer plan font spans old new =
    SetupCutsAtSpans spans khmer_syllable.BROKEN_CLUSTER old new
    × (clusters new.glyphs ≡ clusters old.glyphs) × OnlyFlagsAdded old.glyphs new.glyphs
PauseKeeps SetupSyllablesMyanmar plan font spans old new =
    SetupCutsAtSpans spans myanmar_syllable.BROKEN_CLUSTER old new
    × (clusters new.glyphs ≡ clusters old.glyphs) × OnlyFlagsAdded old.glyphs new.glyphs
PauseKeeps SetupSyllablesUse plan font spans old new =
    UniversalSetupCutsAtSpans plan.break_flags plan.plan_data plan.ot_map spans old new
    × (clusters new.glyphs ≡ clusters old.glyphs) × OnlyFlagsAdded old.glyphs new.glyphs
PauseKeeps InitialReordering plan font spans old new =
    ReorderingKeeps (by_initial plan font old) old new
    × (InitiallyLinked font plan.ot_map (indic_in plan) old new
    × InitiallyMerged font plan.ot_map (indic_in plan) old new)
PauseKeeps ReorderKhmer plan font spans old new =
    ReorderingKeeps (by_khmer plan font old) old new
    × (OneByOne (by_khmer plan font old) old new
    × (MergedFirst (by_khmer plan font old) old new
    × Reordered (by_khmer_movers plan font old) old new))
PauseKeeps ReorderMyanmar plan font spans old new =
    ReorderingKeeps (by_myanmar font old) old new
    × (OneByOne (by_myanmar font old) old new × MergedFirst (by_myanmar font old) old new)
PauseKeeps ReorderUse plan font spans old new =
    ReorderingKeeps (by_universal font old) old new
    × (OneByOne (by_universal font old) old new × MergedFirst (by_universal font old) old new)
PauseKeeps FinalReordering plan font spans old new =
    FinallyKept (final.final_rules font (indic_in plan)) old new
    × (ThenStarted plan font (λ mid. ReorderingKeeps (by_final plan font old) old mid
    × OneByOne (by_final plan font old) old mid) new
    × NoNewCluster old.glyphs new.glyphs)
PauseKeeps _ plan font spans old new = OnlyFlagsAdded old.glyphs new.glyphs

-- when a reordering refuses: an unknown kind first; then as a growth by its circles, never without
abbrev pub RefusesReordering :
    {T : Type 0} → Option ShaperError → Option DottedCircles → Buffer → Result T ShaperError →
    Type 0
RefusesReordering unknown circles old r =
    let opened = circled circles old.glyphs in
    Refuses unknown old.max_len (length opened) r × (unknown ≡ None → opened ≡ old.glyphs → IsOk r)

-- when it refuses; what isn't named never does
abbrev pub RefusesPause :
    {T : Type 0} → Pause → Font → List Span → Buffer → Result T ShaperError → Type 0
RefusesPause SetupSyllablesIndic font spans old r = RefusesInput (spans_refusal spans old) r
RefusesPause SetupSyllablesKhmer font spans old r = RefusesInput (spans_refusal spans old) r
RefusesPause SetupSyllablesMyanmar font spans old r = RefusesInput (spans_refusal spans old) r
RefusesPause SetupSyllablesUse font spans old r = RefusesInput (spans_refusal spans old) r
RefusesPause InitialReordering font spans old r =
    RefusesReordering (initial_refusal old) (initial_circles font old) old r
RefusesPause ReorderKhmer font spans old r =
    let circles = script_circles khmer_circles font old in
    let unknown = unknown_refusal khmer_syllable.NON_KHMER_CLUSTER old.glyphs in
    RefusesReordering unknown circles old r
RefusesPause ReorderMyanmar font spans old r =
    let circles = script_circles myanmar_circles font old in
    let unknown = unknown_refusal myanmar_syllable.NON_MYANMAR_CLUSTER old.glyphs in
    RefusesReordering unknown circles old r
RefusesPause ReorderUse font spans old r =
    RefusesReordering None (script_circles universal_circles font old) old r
RefusesPause _ font spans old r = IsOk r
