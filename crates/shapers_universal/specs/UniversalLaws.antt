-- Laws of the order of a syllable in the universal shaper, as statements.
use Rattle.std.specs.Prelude.{◌≤◌, List, Option, All}
use Rattle.shapers_buffer.specs.Glyphs.{Glyph, Glyphs}
use Rattle.shapers_buffer.specs.declared.buffer.syllables.Span.{Span}
use Rattle.shapers_buffer.specs.Buffer.{Buffer}
use Rattle.shapers_base.specs.Map.{Map}
use Rattle.shapers_base.specs.declared.plan.PlanData.{PlanData}
use Rattle.shapers_base.specs.declared.plan.breaks.BreakFlags.{BreakFlags}
use Rattle.shapers_syllabic.specs.declared.ot_shaper_syllabic.circles.DottedCircles.{DottedCircles}
use Rattle.shapers_syllabic.specs.Borders.{unnumbered}
use Rattle.shapers_syllabic.specs.Reordering.{PauseReordered}
use Rattle.shapers_syllabic.specs.ReorderingLaws.{MoveMerged, ReadsNoMasks, ReadsNoSerials, ReorderLaws, paused_clusters, paused_order}
use Rattle.shapers_syllabic.specs.SpanCuts.{CutsBetweenSpans}
use Rattle.shapers_syllabic.specs.Syllabic.{unsafe_spans}
use Rattle.shapers_universal.specs.PlanData.{arabic_of}
use Rattle.shapers_universal.specs.Universal.{universal_order, universal_steps}
use Rattle.shapers_universal.specs.UniversalCuts.{formless_for}
use Rattle.shapers_universal.specs.UniversalSyllables.{syllables_setup, with_forms_flagged, with_syllable_masks}

-- the steps of a syllable take each of its places once and lead to its order
abbrev pub UniversalReorderLaws : Type 0
UniversalReorderLaws = ReorderLaws universal_order universal_steps

-- and move only inside what they merged first
abbrev pub UniversalMovesMerged : Type 0
UniversalMovesMerged = MoveMerged universal_steps

-- what a syllable becomes, and by which steps, depends neither on the serial of its byte nor on
-- masks
abbrev pub UniversalReadsNoSerials : Type 0
UniversalReadsNoSerials = ReadsNoSerials universal_order universal_steps

abbrev pub UniversalReadsNoMasks : Type 0
UniversalReadsNoMasks = ReadsNoMasks universal_order universal_steps

-- the glyphs that spans set up: bytes, no break inside them, the masks of rphf and of forms
abbrev pub setup_by_spans : PlanData → Map → List Span → Glyphs →
    Glyphs
setup_by_spans kept m spans gs = with_syllable_masks kept m (unsafe_spans spans gs)

-- the glyph without what differs between a text and its halves: serial and masks of forms
abbrev pub without_serial_or_forms : PlanData → Map → Glyph → Glyph
without_serial_or_forms kept m g = unnumbered (formless_for (arabic_of kept) m g)

-- A set-up and a reordering pause directly after it may be cut between any two spans.
abbrev pub UniversalCutsBetweenSpans : Type 0
UniversalCutsBetweenSpans =
    (breaks : BreakFlags) (kept : PlanData) (m : Map) (circles : Option DottedCircles)
    (spans : List Span) (old new : Buffer) →
    All (λ span. span.kind ≤ 15) spans →
    PauseReordered circles universal_order universal_steps
    (with_forms_flagged breaks kept m (syllables_setup kept m spans old)) new →
    CutsBetweenSpans (without_serial_or_forms kept m) (setup_by_spans kept m)
    (paused_order circles universal_order) (paused_clusters circles universal_steps old.level)
    spans old.glyphs new.glyphs
