-- Where a text of Indic may be broken that is set up, reordered initially and then finally.
use Rattle.std.specs.Prelude.{ℕ, ◌+◌, ◌<◌, ◌≡◌, ◌⊎◌, List, ◌++◌, Option, length, map}
use Rattle.std.specs.List.{AllByRecursion, zip}
use Rattle.shapers_buffer.specs.Glyphs.{Glyph, Glyphs}
use Rattle.shapers_buffer.specs.declared.buffer.level.BufferClusterLevel.{BufferClusterLevel}
use Rattle.shapers_buffer.specs.declared.buffer.syllables.Span.{Span}
use Rattle.shapers_buffer.specs.declared.buffer.tag.Script.{Script}
use Rattle.shapers_buffer.specs.Buffer.{Buffer}
use Rattle.shapers_buffer.specs.Glyph.{clusters, order_view}
use Rattle.shapers_buffer.specs.Syllables.{syllables}
use Rattle.shapers_base.specs.Font.{Font}
use Rattle.shapers_base.specs.declared.plan.hb_ot_shape_plan_t.{hb_ot_shape_plan_t}
use Rattle.shapers_base.specs.declared.plan.pause.Pause.TheVariants.{FinalReordering, InitialReordering, SetupSyllablesIndic}
use Rattle.shapers_clusters.specs.Breaks.{IsClear}
use Rattle.shapers_indic.specs.Plan.{indic_in}
use Rattle.shapers_indic_final.specs.FinalCuts.{uninitiated}
use Rattle.shapers_indic_final.specs.FinalLaws.{FinallyOfHalves, final_clusters}
use Rattle.shapers_indic_final.specs.FinalRules.{final_rules}
use Rattle.shapers_indic_final.specs.FinalWordStart.{final_text}
use Rattle.shapers_indic_final.specs.declared.ot_shaper_indic_final.rules.Rules.{Rules}
use Rattle.shapers_syllabic.specs.Borders.{SameButSerials}
use Rattle.shapers_syllabic.specs.ReorderingLaws.{paused_carried, paused_order}
use Rattle.shapers_syllabic.specs.Syllabic.{unsafe_spans}
use Rattle.rustybuzz_shapers.specs.Pauses.{Paused, Reordering, by_initial}
use Rattle.shapers_break_laws.specs.ChainBreaks.{IsSpanned, LeavesSideBySide}
use Rattle.shapers_break_laws.specs.FinalBreaks.{IsOfTwoClusters, SeparatesNothing}
use Rattle.shapers_break_laws.specs.IndicBreaks.{SpansSeparateClusters}
use Rattle.shapers_break_laws.specs.KeptTextBreaks.{FlagsKept, SyllablesApart}
use Rattle.shapers_break_laws.specs.PauseBreaks.{SpanCut}
use Rattle.shapers_break_laws.specs.ScriptBreaks.{CanBreak}

-- the glyph that the order view shows, with the cluster and the glyph flags that were carried along
abbrev pub carrying : Glyph → Glyph → Glyph
carrying shown along = record shown { cluster = along.cluster; mask = shown.mask + along.mask }

-- the glyphs that a reordering makes of a text: its order view, and all that is carried along
abbrev pub reordered_text : Reordering → BufferClusterLevel → Glyphs →
    Glyphs
reordered_text r level gs = map (λ glyph. carrying glyph.0 glyph.1)
    (zip (paused_order r.circles r.order gs) (paused_carried r.circles r.steps level gs))

-- The glyphs of the one buffer were made of the other's, by lookups or a reordering, with the
-- results of halves left side by side; flags may be lost.
pub record MadeSideBySide (lookups : Glyphs → Glyphs) (old new :
    Buffer) : Type 0 where
  pub level : new.level ≡ old.level
  pub glyphs : new.glyphs ≡ lookups old.glyphs
  pub side_by_side : LeavesSideBySide lookups old.glyphs

-- A reordering of syllables that share no cluster: it makes its text and leaves the halves' results
-- side by side, and the syllables share none behind it. Where none of them had more than two, none
-- has, and if they had kept their flags they keep them.
pub record ReorderedApart (r : Reordering) (old new : Buffer) : Type 0 where
  pub made : MadeSideBySide (reordered_text r old.level) old new
  pub apart : SyllablesApart new.glyphs
  pub two : AllByRecursion IsOfTwoClusters (syllables old.glyphs) →
      AllByRecursion IsOfTwoClusters (syllables new.glyphs)
  pub flags : AllByRecursion IsOfTwoClusters (syllables old.glyphs) → FlagsKept old.glyphs →
      FlagsKept new.glyphs

-- so the initial one
abbrev pub InitialReorderedApart : Type 0
InitialReorderedApart = (plan : hb_ot_shape_plan_t) (font : Font) (unread : List Span)
    (old new : Buffer) → SyllablesApart old.glyphs →
    Paused InitialReordering plan font unread old new →
    ReorderedApart (by_initial plan font old) old new

-- What stands before the final reordering: its syllables kept their flags and share no cluster, and
-- in each at most one left matra moves or there are at most two clusters.
pub record CanReorderFinally (rules : Rules) (script : Option Script) (gs : Glyphs) : Type 0 where
  pub flags : FlagsKept gs
  pub apart : SyllablesApart gs
  pub parts : AllByRecursion (SeparatesNothing rules script) (syllables gs)

-- A text, or half of one, before its final reordering: set up by its spans, given to lookups,
-- reordered initially, and given to other lookups.
abbrev pub before_final : (Glyphs → Glyphs) →
    (Glyphs → Glyphs) → Reordering → BufferClusterLevel → List Span →
    Glyphs → Glyphs
before_final first second r level spans gs =
    second (reordered_text r level (first (unsafe_spans spans gs)))

-- The text may be broken before place p of what was made of it, by what becomes of a half before
-- the final reordering. It was cut there between two spans, into halves that share no cluster, and
-- the whole, order view and clusters, is what becomes of these, each by itself, one after the
-- other, serials and the bits of init apart. These bits differ at the start of the second alone:
-- what was reordered finally is the first half and, serials apart, the second.
pub record IndicBroken (made : List Span → Glyphs →
    Glyphs) (rules : Rules) (script : Option Script) (level :
    BufferClusterLevel) (spans : List Span) (old new : Glyphs) (p : ℕ) : Type 0 where
  pub cut : SpanCut made (λ gs. gs) spans old p
  pub order : map (uninitiated rules) (order_view new)
      ≡ map (uninitiated rules) (final_text rules script (order_view (made cut.front cut.before)))
      ++ map (uninitiated rules) (final_text rules script (order_view (made cut.back cut.behind)))
  pub in_clusters : clusters new
      ≡ final_clusters rules script level (made cut.front cut.before)
      ++ final_clusters rules script level (made cut.back cut.behind)
  pub second : Glyphs
  pub renumbered : SameButSerials second (made cut.back cut.behind)
  pub halves : FinallyOfHalves rules script level (made cut.front cut.before) second new

-- so at every clear place
abbrev pub IndicBreaks : (List Span → Glyphs → Glyphs) → Rules →
    Option Script → BufferClusterLevel → List Span → Glyphs →
    Glyphs → Type 0
IndicBreaks made rules script level spans old new =
    (p : ℕ) → 0 < p → p < length new → IsClear new p →
    IndicBroken made rules script level spans old new p

-- All three pauses, and between any two of them lookups that leave results side by side: where
-- syllables share no cluster before either reordering, and kept their flags before the final one.
abbrev pub IndicChainBreaks : Type 0
IndicChainBreaks = (plan : hb_ot_shape_plan_t) (font : Font) (spans unread : List Span)
    (first second : Glyphs → Glyphs)
    (old mid between reordered looked new : Buffer) →
    IsSpanned spans old →
    Paused SetupSyllablesIndic plan font spans old mid →
    MadeSideBySide first mid between → SyllablesApart between.glyphs →
    Paused InitialReordering plan font unread between reordered →
    MadeSideBySide second reordered looked →
    let r = by_initial plan font between in
    let rules = final_rules font (indic_in plan) in
    CanReorderFinally rules looked.script looked.glyphs →
    Paused FinalReordering plan font unread looked new →
    IndicBreaks (before_final first second r old.level) rules looked.script old.level spans
    old.glyphs new.glyphs

-- The three directly behind one another: where clusters rise or fall, and each border of spans is
-- one of clusters, syllables share none. If besides they are of two clusters no more is required.
abbrev pub IndicPausesBreak : Type 0
IndicPausesBreak = (plan : hb_ot_shape_plan_t) (font : Font) (spans unread : List Span)
    (old mid between new : Buffer) → CanBreak spans old → SpansSeparateClusters spans old.glyphs →
    Paused SetupSyllablesIndic plan font spans old mid →
    Paused InitialReordering plan font unread mid between →
    let r = by_initial plan font mid in
    let rules = final_rules font (indic_in plan) in
    AllByRecursion IsOfTwoClusters (syllables mid.glyphs)
    ⊎ (FlagsKept between.glyphs
    × AllByRecursion (SeparatesNothing rules between.script) (syllables between.glyphs)) →
    Paused FinalReordering plan font unread between new →
    IndicBreaks (before_final (λ gs. gs) (λ gs. gs) r old.level) rules between.script old.level
    spans old.glyphs new.glyphs
