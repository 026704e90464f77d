-- Where a text of the universal shaper may be broken whose syllables are set up, given to lookups,
-- and then reordered; with Sound masks of forms included.
use Rattle.std.specs.Prelude.{◌<◌, ◌≡◌, List, ◌++◌, None, length, map}
use Rattle.shapers_buffer.specs.Glyphs.{Glyph, Glyphs}
use Rattle.shapers_buffer.specs.declared.buffer.syllables.Span.{Span}
use Rattle.shapers_buffer.specs.Buffer.{Buffer}
use Rattle.shapers_buffer.specs.Glyph.{clusters, without_flags}
use Rattle.shapers_base.specs.Font.{Font}
use Rattle.shapers_base.specs.Map.{Map}
use Rattle.shapers_base.specs.declared.plan.PlanData.{PlanData}
use Rattle.shapers_base.specs.declared.plan.breaks.BreakFlags.TheVariants.{Sound}
use Rattle.shapers_base.specs.declared.plan.hb_ot_shape_plan_t.{hb_ot_shape_plan_t}
use Rattle.shapers_base.specs.declared.plan.pause.Pause.TheVariants.{ReorderUse, SetupSyllablesUse}
use Rattle.shapers_clusters.specs.Breaks.{IsClear}
use Rattle.shapers_clusters.specs.Cuts.{IsMonotone, ShareNone}
use Rattle.shapers_syllabic.specs.Borders.{MeetAtBorder, SameButSerials, unnumbered}
use Rattle.shapers_syllabic.specs.Circles.{circled}
use Rattle.shapers_syllabic.specs.ReorderingLaws.{paused_clusters, paused_order, with_mask_by}
use Rattle.shapers_universal.specs.PlanData.{arabic_of}
use Rattle.shapers_universal.specs.UniversalCuts.{formless_for}
use Rattle.shapers_universal.specs.UniversalLaws.{setup_by_spans, without_serial_or_forms}
use Rattle.shapers_universal.specs.UniversalSyllables.{forms_flagged}
use Rattle.rustybuzz_shapers.specs.Monotone.{AtMostOneRepha}
use Rattle.rustybuzz_shapers.specs.Pauses.{PauseKeeps, Paused, by_universal}
use Rattle.shapers_break_laws.specs.ChainBreaks.{IsSpanned, LookedUp, MadeOfHalves}
use Rattle.shapers_break_laws.specs.KeptTextBreaks.{FlagsKept}
use Rattle.shapers_break_laws.specs.PauseBreaks.{BreaksBetweenSpans}
use Rattle.shapers_break_laws.specs.ScriptBreaks.{CanBreak, FormsOffFlags}

-- what spans set up of glyphs under a plan: masks of forms, and what the plan's choice flags
abbrev pub setup_under : hb_ot_shape_plan_t → List Span → Glyphs →
    Glyphs
setup_under plan spans gs =
    let kept = plan.plan_data in
    let setup = setup_by_spans kept plan.ot_map spans gs in
    forms_flagged (arabic_of kept) plan.break_flags plan.ot_map setup

-- of texts that are the same in a view, but for serials, lookups make texts that are
abbrev pub ReadsOnly : (Glyph → Glyph) →
    (Glyphs → Glyphs) → Type 0
ReadsOnly view lookups = (gs hs : Glyphs) →
    SameButSerials (map view gs) (map view hs) →
    SameButSerials (map view (lookups gs)) (map view (lookups hs))

-- the glyph without glyph flags, and without the masks of forms too
abbrev pub without_glyph_flags : Glyph → Glyph
without_glyph_flags g = with_mask_by without_flags g

abbrev pub without_flags_or_forms : PlanData → Map → Glyph → Glyph
without_flags_or_forms kept m g = without_glyph_flags (formless_for (arabic_of kept) m g)

-- A set-up, any lookups that leave results side by side and read no masks of forms, and the
-- reordering: masks of forms apart, where clusters then rise or fall along the text, with its
-- circles.
abbrev pub UniversalChainBreaks : Type 0
UniversalChainBreaks = (plan : hb_ot_shape_plan_t) (font : Font) (spans unread : List Span)
    (lookups : Glyphs → Glyphs) (old mid between new : Buffer) →
    IsSpanned spans old → FormsOffFlags (arabic_of plan.plan_data) plan.ot_map →
    Paused SetupSyllablesUse plan font spans old mid →
    PauseKeeps SetupSyllablesUse plan font spans old mid →
    LookedUp lookups mid between →
    ReadsOnly (without_flags_or_forms plan.plan_data plan.ot_map) lookups →
    let r = by_universal font between in
    IsMonotone (clusters (circled r.circles between.glyphs)) →
    Paused ReorderUse plan font unread between new →
    BreaksBetweenSpans (without_serial_or_forms plan.plan_data plan.ot_map)
    (λ spans gs. lookups (setup_under plan spans gs)) (paused_order r.circles r.order)
    (paused_clusters r.circles r.steps old.level) spans old.glyphs new.glyphs

-- the halves of which lookups make these, of a text that is clear where they meet
pub record MadeWhereClear (lookups : Glyphs →
    Glyphs) (gs front back : Glyphs) : Type 0 where
  pub cut : MadeOfHalves lookups gs front back
  pub inside : length cut.before < length gs
  pub clear : IsClear gs (length cut.before)

-- Lookups leave results side by side where these are clear: wherever what they make of a text is
-- cut at a clear place between two syllables, into halves that share no cluster, these are what
-- they make of the halves of the text, cut at a clear place.
abbrev pub LeavesWhereClear : (Glyphs → Glyphs) →
    Glyphs → Type 0
LeavesWhereClear lookups gs = (front back : Glyphs) → lookups gs ≡ front ++ back →
    MeetAtBorder front back → ShareNone front back → length front < length (lookups gs) →
    IsClear (lookups gs) (length front) → MadeWhereClear lookups gs front back

-- so between a set-up and a reordering, by lookups that took no flag from a glyph and read none
pub record LookedUpWhereClear (lookups : Glyphs →
    Glyphs) (mid between : Buffer) : Type 0 where
  pub level : between.level ≡ mid.level
  pub glyphs : between.glyphs ≡ lookups mid.glyphs
  pub halves : LeavesWhereClear lookups mid.glyphs
  pub reads : ReadsOnly without_glyph_flags lookups
  pub flags : FlagsKept between.glyphs

-- With Sound, where letters don't join: masks of forms included.
abbrev pub UniversalSoundChainBreaks : Type 0
UniversalSoundChainBreaks = (plan : hb_ot_shape_plan_t) (font : Font) (spans unread : List Span)
    (lookups : Glyphs → Glyphs) (old mid between new : Buffer) →
    IsSpanned spans old → plan.break_flags ≡ Sound → arabic_of plan.plan_data ≡ None →
    FormsOffFlags (arabic_of plan.plan_data) plan.ot_map →
    Paused SetupSyllablesUse plan font spans old mid →
    LookedUpWhereClear lookups mid between →
    let r = by_universal font between in
    IsMonotone (clusters (circled r.circles between.glyphs)) →
    Paused ReorderUse plan font unread between new →
    BreaksBetweenSpans unnumbered (λ spans gs. lookups (setup_under plan spans gs))
    (paused_order r.circles r.order) (paused_clusters r.circles r.steps old.level) spans old.glyphs
    new.glyphs

-- and with nothing in between
abbrev pub UniversalSoundPausesBreak : Type 0
UniversalSoundPausesBreak = (plan : hb_ot_shape_plan_t) (font : Font) (spans unread : List Span)
    (old mid new : Buffer) → CanBreak spans old → plan.break_flags ≡ Sound →
    arabic_of plan.plan_data ≡ None → FormsOffFlags (arabic_of plan.plan_data) plan.ot_map →
    AtMostOneRepha (by_universal font mid).circles mid.glyphs →
    Paused SetupSyllablesUse plan font spans old mid →
    Paused ReorderUse plan font unread mid new →
    let r = by_universal font mid in
    BreaksBetweenSpans unnumbered (setup_under plan) (paused_order r.circles r.order)
    (paused_clusters r.circles r.steps old.level) spans old.glyphs new.glyphs
