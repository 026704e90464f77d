-- Where a text may be broken whose syllables are set up, given to lookups, and then reordered.
use Rattle.std.specs.Prelude.{◌≤◌, ◌≡◌, true, List, ◌++◌, All, length}
use Rattle.shapers_buffer.specs.Glyphs.{Glyphs}
use Rattle.shapers_buffer.specs.declared.buffer.syllables.Span.{Span}
use Rattle.shapers_buffer.specs.Buffer.{Buffer}
use Rattle.shapers_buffer.specs.Clusters.{merges}
use Rattle.shapers_buffer.specs.Glyph.{clusters}
use Rattle.shapers_buffer.specs.Syllables.{spans_cover}
use Rattle.shapers_base.specs.Font.{Font}
use Rattle.shapers_base.specs.declared.plan.hb_ot_shape_plan_t.{hb_ot_shape_plan_t}
use Rattle.shapers_base.specs.declared.plan.pause.Pause.{Pause}
use Rattle.shapers_base.specs.declared.plan.pause.Pause.TheVariants.{InitialReordering, SetupSyllablesIndic}
use Rattle.shapers_clusters.specs.Cuts.{IsMonotone, ShareNone}
use Rattle.shapers_syllabic.specs.Borders.{MeetAtBorder, SameButSerials, unnumbered}
use Rattle.shapers_syllabic.specs.Circles.{circled}
use Rattle.shapers_syllabic.specs.ReorderingLaws.{paused_clusters, paused_order}
use Rattle.shapers_syllabic.specs.Syllabic.{unsafe_spans}
use Rattle.rustybuzz_shapers.specs.Pauses.{Paused, Reordering, by_initial}
use Rattle.shapers_break_laws.specs.IndicBreaks.{JoinersShare}
use Rattle.shapers_break_laws.specs.PauseBreaks.{BreaksBetweenSpans}
use Rattle.shapers_break_laws.specs.KeptTextBreaks.{FlagsKept, SyllablesApart}

-- The halves of a text, cut between two syllables and sharing no cluster, of which lookups make
-- these.
pub record MadeOfHalves (lookups : Glyphs →
    Glyphs) (gs front back : Glyphs) : Type 0 where
  pub before : Glyphs
  pub behind : Glyphs
  pub text : gs ≡ before ++ behind
  pub border : MeetAtBorder before behind
  pub apart : ShareNone before behind
  pub first : lookups before ≡ front
  pub second : lookups behind ≡ back

-- Lookups leave the halves' results side by side: wherever what they make of a text is cut between
-- two syllables into halves that share no cluster, these are what they make of the text's halves.
-- They read no serials of syllables.
pub record LeavesSideBySide (lookups : Glyphs →
    Glyphs) (gs : Glyphs) : Type 0 where
  pub halves : (front back : Glyphs) → lookups gs ≡ front ++ back →
      MeetAtBorder front back → ShareNone front back → MadeOfHalves lookups gs front back
  pub serials : (xs ys : Glyphs) → SameButSerials xs ys →
      SameButSerials (lookups xs) (lookups ys)

-- What stands between a set-up and a reordering: lookups made the one buffer of the other, side by
-- side, and took no flag from a glyph.
pub record LookedUp (lookups : Glyphs → Glyphs) (mid between :
    Buffer) : Type 0 where
  pub level : between.level ≡ mid.level
  pub glyphs : between.glyphs ≡ lookups mid.glyphs
  pub side_by_side : LeavesSideBySide lookups mid.glyphs
  pub flags : FlagsKept between.glyphs

-- spans that cover a text, of kinds up to 15, at a level that merges
pub record IsSpanned (spans : List Span) (old : Buffer) : Type 0 where
  pub kinds : All (λ span. span.kind ≤ 15) spans
  pub covered : spans_cover (length old.glyphs) spans ≡ true
  pub merging : merges old.level ≡ true

-- the text may be broken at every clear place, each half set up, given to the same lookups and
-- reordered by itself
abbrev pub ChainBreaks : (Glyphs → Glyphs) → Reordering → List Span →
    Buffer → Buffer → Type 0
ChainBreaks lookups r spans old new =
    BreaksBetweenSpans unnumbered (λ spans gs. lookups (unsafe_spans spans gs))
    (paused_order r.circles r.order) (paused_clusters r.circles r.steps old.level) spans old.glyphs
    new.glyphs

-- A set-up, any lookups that leave results side by side, and a reordering that moves only inside
-- what it merged: where clusters then rise or fall along the text, with its circles.
abbrev pub ChainBreaksBy : Pause → Pause → (hb_ot_shape_plan_t → Font → Buffer → Reordering) →
    Type 0
ChainBreaksBy setup pause by = (plan : hb_ot_shape_plan_t) (font : Font) (spans unread : List Span)
    (lookups : Glyphs → Glyphs) (old mid between new : Buffer) →
    IsSpanned spans old →
    Paused setup plan font spans old mid →
    LookedUp lookups mid between →
    let r = by plan font between in
    IsMonotone (clusters (circled r.circles between.glyphs)) →
    Paused pause plan font unread between new →
    ChainBreaks lookups r spans old new

-- The initial reordering of Indic, where the syllables share no cluster.
abbrev pub InitialChainBreaks : Type 0
InitialChainBreaks = (plan : hb_ot_shape_plan_t) (font : Font) (spans unread : List Span)
    (lookups : Glyphs → Glyphs) (old mid between new : Buffer) →
    IsSpanned spans old →
    Paused SetupSyllablesIndic plan font spans old mid →
    LookedUp lookups mid between → SyllablesApart between.glyphs →
    let r = by_initial plan font between in
    JoinersShare r between →
    Paused InitialReordering plan font unread between new →
    ChainBreaks lookups r spans old new
