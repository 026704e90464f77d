-- A set-up by spans, a reordering pause and the final reordering, directly after one another, cut
-- between any two spans.
use Rattle.std.specs.Prelude.{ℕ, ◌≤◌, List, Option, All}
use Rattle.shapers_buffer.specs.Glyphs.{Glyph, Glyphs}
use Rattle.shapers_buffer.specs.declared.buffer.level.BufferClusterLevel.{BufferClusterLevel}
use Rattle.shapers_buffer.specs.declared.buffer.syllables.Span.{Span}
use Rattle.shapers_buffer.specs.declared.buffer.tag.Script.{Script}
use Rattle.shapers_buffer.specs.Buffer.{Buffer}
use Rattle.shapers_buffer.specs.GlyphFlags.{with_bits}
use Rattle.shapers_clusters.specs.Steps.{Step, joined_steps}
use Rattle.shapers_indic_final.specs.FinalWordStart.{FinallyReordered, final_text}
use Rattle.shapers_indic_final.specs.FinalReordering.{final_steps}
use Rattle.shapers_indic_final.specs.declared.ot_shaper_indic_final.rules.Rules.{Rules}
use Rattle.shapers_syllabic.specs.declared.ot_shaper_syllabic.circles.DottedCircles.{DottedCircles}
use Rattle.shapers_syllabic.specs.declared.ot_shaper_syllabic.kinds.indic_syllable.TheConstants.{BROKEN_CLUSTER}
use Rattle.shapers_syllabic.specs.Borders.{spans_setup, unnumbered}
use Rattle.shapers_syllabic.specs.Reordering.{PauseReordered, text_steps}
use Rattle.shapers_syllabic.specs.ReorderingLaws.{ReadsNoSerials, ReorderLaws, paused_clusters, paused_order}
use Rattle.shapers_syllabic.specs.SpanCuts.{CutsBetweenSpans}
use Rattle.shapers_syllabic.specs.Syllabic.{unsafe_spans}

-- the glyph without the serial of its byte, and with the bits of init, so that neither shows
abbrev pub uninitiated : Rules → Glyph → Glyph
uninitiated r g = unnumbered (with_bits r.init g)

-- what a reordering pause and then the final one make of a text: its order view, and its clusters
abbrev pub final_after : Rules → Option Script → Option DottedCircles →
    (Glyphs → Glyphs) → Glyphs → Glyphs
final_after r script circles meaning gs = final_text r script (paused_order circles meaning gs)

abbrev pub final_clusters_after : Rules → Option Script → BufferClusterLevel →
    Option DottedCircles → (Glyphs → Glyphs) →
    (Glyphs → List Step) → Glyphs → List ℕ
final_clusters_after r script level circles meaning steps gs =
    joined_steps level (text_steps (final_steps r script) (paused_order circles meaning gs))
    (paused_clusters circles steps level gs)

-- Whatever the pause is, as long as it reads no serials: serials and the bits of init apart, the
-- halves' results are joined.
abbrev pub FinalCutsBetweenSpans : Type 0
FinalCutsBetweenSpans =
    (r : Rules) (meaning : Glyphs → Glyphs)
    (steps : Glyphs → List Step) (circles : Option DottedCircles) (spans : List Span)
    (old mid new : Buffer) →
    ReorderLaws meaning steps → ReadsNoSerials meaning steps → All (λ span. span.kind ≤ 15) spans →
    PauseReordered circles meaning steps (spans_setup spans BROKEN_CLUSTER old) mid →
    FinallyReordered r mid new →
    CutsBetweenSpans (uninitiated r) unsafe_spans (final_after r old.script circles meaning)
    (final_clusters_after r old.script old.level circles meaning steps) spans old.glyphs
    new.glyphs
