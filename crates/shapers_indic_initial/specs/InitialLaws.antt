-- Laws of the initial reordering, as statements.
use Rattle.std.specs.Prelude.{List, Option, ◌≡◌, ◌≤◌, All, true}
use Rattle.shapers_buffer.specs.declared.buffer.tag.Script.{Script}
use Rattle.shapers_buffer.specs.Buffer.{Buffer}
use Rattle.shapers_buffer.specs.Clusters.{merges}
use Rattle.shapers_buffer.specs.Glyph.{clusters, order_view}
use Rattle.shapers_base.specs.declared.plan.indic.indic_shape_plan_t.{indic_shape_plan_t}
use Rattle.shapers_base.specs.Font.{Font}
use Rattle.shapers_base.specs.Map.{Map}
use Rattle.shapers_indic_initial.specs.InitialClusters.{EachSyllableMerges}
use Rattle.shapers_indic_initial.specs.InitialPause.{InitiallyReordered, initial_circles, order_by_font, steps_by_font, with_positions_and_circles}
use Rattle.shapers_indic_initial.specs.InitialReordering.{initial_order, initial_steps}
use Rattle.shapers_indic_initial.specs.InitialRules.{Rules, initial_rules}
use Rattle.shapers_buffer.specs.declared.buffer.syllables.Span.{Span}
use Rattle.shapers_syllabic.specs.Borders.{spans_setup, unnumbered}
use Rattle.shapers_syllabic.specs.Reordering.{PauseReordered}
use Rattle.shapers_syllabic.specs.ReorderingLaws.{ReadsNoSerials, ReorderLaws, paused_clusters, paused_order}
use Rattle.shapers_syllabic.specs.SpanCuts.{CutsBetweenSpans}
use Rattle.shapers_syllabic.specs.Syllabic.{unsafe_spans}
use Rattle.shapers_syllabic.specs.declared.ot_shaper_syllabic.kinds.indic_syllable.TheConstants.{BROKEN_CLUSTER}

-- The steps of a syllable take each of its places once and lead to its order.
abbrev pub InitialReorderLaws : Type 0
InitialReorderLaws = (r : Rules) (script : Option Script) →
    ReorderLaws (initial_order r script) (initial_steps r script)

-- so where positions by the font come first
abbrev pub OrderByFontLaws : Type 0
OrderByFontLaws = (font : Font) (m : Map) (p : indic_shape_plan_t) (script : Option Script) →
    ReorderLaws (order_by_font font m p script) (steps_by_font font m p script)

-- The pause is one of dotted circles and syllables: positions by the font may as well be given to
-- each syllable before its order.
abbrev pub InitiallyAsPause : Type 0
InitiallyAsPause = (font : Font) (m : Map) (p : indic_shape_plan_t) (old new : Buffer) →
    (InitiallyReordered font m p old new →
    PauseReordered (initial_circles font old) (order_by_font font m p old.script)
    (steps_by_font font m p old.script) old new)
    × (PauseReordered (initial_circles font old) (order_by_font font m p old.script)
    (steps_by_font font m p old.script) old new → InitiallyReordered font m p old new)

-- After the pause, at the levels that merge: each syllable's clusters by what its order moves. All
-- places from the base on that a glyph moved over share one cluster; where the syllable's clusters
-- are its own no more is merged, and each stretch has its least.
abbrev pub InitiallyMerged : Font → Map → indic_shape_plan_t → Buffer → Buffer → Type 0
InitiallyMerged font m p old new =
    let gs = (with_positions_and_circles font m p old).glyphs in
    merges old.level ≡ true →
    EachSyllableMerges (initial_rules font m p) old.script old.level (order_view gs) (clusters gs)
    (clusters new.glyphs)

abbrev pub InitialTextMerges : Type 0
InitialTextMerges = (font : Font) (m : Map) (p : indic_shape_plan_t) (old new : Buffer) →
    InitiallyReordered font m p old new → InitiallyMerged font m p old new

-- What a syllable becomes, with positions by the font, depends on the kind in its bytes and not on
-- their serials, so that the pause can be cut between any two spans.
abbrev pub OrderByFontReadsNoSerials : Type 0
OrderByFontReadsNoSerials =
    (font : Font) (m : Map) (p : indic_shape_plan_t) (script : Option Script) →
    ReadsNoSerials (order_by_font font m p script) (steps_by_font font m p script)

-- A set-up and the pause directly after it may be cut between any two spans.
abbrev pub InitialCutsBetweenSpans : Type 0
InitialCutsBetweenSpans =
    (font : Font) (m : Map) (p : indic_shape_plan_t) (spans : List Span) (old new : Buffer) →
    All (λ span. span.kind ≤ 15) spans →
    let mid = spans_setup spans BROKEN_CLUSTER old in
    let circles = initial_circles font mid in
    InitiallyReordered font m p mid new →
    CutsBetweenSpans unnumbered unsafe_spans
    (paused_order circles (order_by_font font m p old.script))
    (paused_clusters circles (steps_by_font font m p old.script) old.level) spans old.glyphs
    new.glyphs
