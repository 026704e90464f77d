-- Where a text may be broken that Indic's initial reordering has reordered.
use Rattle.std.specs.Prelude.{ℕ, ◌-◌, ◌<◌, ◌≡◌, ◌≢◌, true, List, Option, length, slice_index}
use Rattle.std.specs.List.{AllByRecursion}
use Rattle.shapers_buffer.specs.Glyphs.{Glyphs}
use Rattle.shapers_buffer.specs.declared.buffer.syllables.Span.{Span}
use Rattle.shapers_buffer.specs.declared.buffer.tag.Script.{Script}
use Rattle.shapers_buffer.specs.Buffer.{Buffer}
use Rattle.shapers_buffer.specs.Clusters.{merges}
use Rattle.shapers_buffer.specs.Glyph.{clusters}
use Rattle.shapers_buffer.specs.Syllables.{syllables}
use Rattle.shapers_base.specs.Font.{Font}
use Rattle.shapers_base.specs.declared.plan.hb_ot_shape_plan_t.{hb_ot_shape_plan_t}
use Rattle.shapers_base.specs.declared.plan.pause.Pause.TheVariants.{InitialReordering, SetupSyllablesIndic}
use Rattle.shapers_indic_initial.specs.InitialBase.{joiner_comes_first}
use Rattle.shapers_syllabic.specs.Borders.{unnumbered}
use Rattle.shapers_syllabic.specs.Circles.{circled}
use Rattle.shapers_syllabic.specs.ReorderingLaws.{paused_clusters, paused_order}
use Rattle.shapers_syllabic.specs.Syllabic.{unsafe_spans}
use Rattle.rustybuzz_shapers.specs.Pauses.{Paused, Reordering, by_initial}
use Rattle.shapers_break_laws.specs.PauseBreaks.{BreaksBetweenSpans}
use Rattle.shapers_break_laws.specs.ScriptBreaks.{CanBreak}
use Rattle.shapers_break_laws.specs.Setup.{SpanBorder}
use Rattle.shapers_break_laws.specs.KeptTextBreaks.{FlagsKept, SyllablesApart, KeptTextBreaks}

-- each border of spans is one of clusters: the two glyphs that meet there are in different ones
abbrev pub SpansSeparateClusters : List Span → Glyphs → Type 0
SpansSeparateClusters spans gs = (p : ℕ) → 0 < p → p < length gs → SpanBorder spans p →
    slice_index (clusters gs) (p - 1) ≢ slice_index (clusters gs) p

-- In Kannada an H and the ZWJ behind it, which change places where they follow the Ra that opens a
-- syllable, share a cluster, as they do in a grapheme.
abbrev pub JoinerShares : Option Script → Glyphs → Type 0
JoinerShares script syllable = joiner_comes_first script syllable ≡ true →
    slice_index (clusters syllable) 1 ≡ slice_index (clusters syllable) 2

-- so in each syllable of a text, with the circles that open in it
abbrev pub JoinersShare : Reordering → Buffer → Type 0
JoinersShare r b = AllByRecursion (JoinerShares b.script) (syllables (circled r.circles b.glyphs))

-- The set-up and the initial reordering directly after it: the text may be broken at every clear
-- place. Rephas may be any number: circles stay in their syllables' clusters.
abbrev pub InitialPausesBreak : Type 0
InitialPausesBreak = (plan : hb_ot_shape_plan_t) (font : Font) (spans unread : List Span)
    (old mid new : Buffer) → CanBreak spans old → SpansSeparateClusters spans old.glyphs →
    let r = by_initial plan font mid in
    JoinersShare r mid →
    Paused SetupSyllablesIndic plan font spans old mid →
    Paused InitialReordering plan font unread mid new →
    BreaksBetweenSpans unnumbered unsafe_spans (paused_order r.circles r.order)
    (paused_clusters r.circles r.steps old.level) spans old.glyphs new.glyphs

-- The initial reordering alone, of whatever stands there: where syllables kept their flags and
-- share no cluster.
abbrev pub InitialTextBreaks : Type 0
InitialTextBreaks = (plan : hb_ot_shape_plan_t) (font : Font) (unread : List Span)
    (old new : Buffer) → merges old.level ≡ true → FlagsKept old.glyphs →
    SyllablesApart old.glyphs →
    let r = by_initial plan font old in
    JoinersShare r old →
    Paused InitialReordering plan font unread old new →
    KeptTextBreaks r.circles r.order r.steps old.level old.glyphs new.glyphs
