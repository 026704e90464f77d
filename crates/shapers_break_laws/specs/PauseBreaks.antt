-- Where a text may be broken once its syllables are set up and reordered.
use Rattle.std.specs.Prelude.{ℕ, ◌<◌, ◌≤◌, ◌≡◌, true, List, ◌++◌, All, Option, length, map}
use Rattle.shapers_buffer.specs.Glyphs.{Glyph, Glyphs}
use Rattle.shapers_buffer.specs.declared.buffer.syllables.Span.{Span}
use Rattle.shapers_buffer.specs.Buffer.{Buffer}
use Rattle.shapers_buffer.specs.Clusters.{merges}
use Rattle.shapers_buffer.specs.Glyph.{clusters, order_view}
use Rattle.shapers_buffer.specs.Syllables.{spans_cover}
use Rattle.shapers_clusters.specs.Breaks.{IsClear}
use Rattle.shapers_clusters.specs.Cuts.{IsMonotone, ShareNone}
use Rattle.shapers_clusters.specs.Steps.{Step}
use Rattle.shapers_syllabic.specs.declared.ot_shaper_syllabic.circles.DottedCircles.{DottedCircles}
use Rattle.shapers_syllabic.specs.Borders.{spans_setup, unnumbered}
use Rattle.shapers_syllabic.specs.Reordering.{PauseReordered}
use Rattle.shapers_syllabic.specs.ReorderingLaws.{MoveMerged, ReadsNoSerials, ReorderLaws, paused_clusters, paused_order}
use Rattle.shapers_syllabic.specs.Syllabic.{unsafe_spans}
use Rattle.rustybuzz_shapers.specs.Monotone.{AtMostOneRepha}

-- A text cut between two of its spans, into halves that share no cluster, of which the first one,
-- set up by its own spans, becomes the p glyphs before place p.
pub record SpanCut (setup : List Span → Glyphs →
    Glyphs) (made : Glyphs →
    Glyphs) (spans : List Span) (old : Glyphs) (p : ℕ) : Type 0 where
  pub front : List Span
  pub back : List Span
  pub before : Glyphs
  pub behind : Glyphs
  pub split : spans ≡ front ++ back
  pub text : old ≡ before ++ behind
  pub first : spans_cover (length before) front ≡ true
  pub second : spans_cover (length behind) back ≡ true
  pub apart : ShareNone before behind
  pub place : length (made (setup front before)) ≡ p

-- The text may be broken before place p: there is such a cut, and what is made of the halves, each
-- set up by itself, is the whole: its order view, as far as the view shows it, and its clusters.
pub record BrokenBetweenSpans (view : Glyph →
    Glyph) (setup : List Span → Glyphs →
    Glyphs) (made : Glyphs →
    Glyphs) (clusters_made : Glyphs →
    List ℕ) (spans : List Span) (old new : Glyphs) (p : ℕ) : Type 0 where
  pub cut : SpanCut setup made spans old p
  pub order : map view (order_view new)
      ≡ map view (made (setup cut.front cut.before))
      ++ map view (made (setup cut.back cut.behind))
  pub in_clusters : clusters new
      ≡ clusters_made (setup cut.front cut.before) ++ clusters_made (setup cut.back cut.behind)

-- so at every clear place
abbrev pub BreaksBetweenSpans : (Glyph → Glyph) →
    (List Span → Glyphs → Glyphs) →
    (Glyphs → Glyphs) → (Glyphs → List ℕ) → List Span →
    Glyphs → Glyphs → Type 0
BreaksBetweenSpans view setup made clusters_made spans old new =
    (p : ℕ) → 0 < p → p < length new → IsClear new p →
    BrokenBetweenSpans view setup made clusters_made spans old new p

-- A set-up and a reordering directly after it that moves only inside what it merges, whatever
-- circles open between: where clusters rise or fall along the text, at the levels that merge, the
-- text may be broken at every clear place, serials apart.
abbrev pub PausesBreak : (Glyphs → Glyphs) →
    (Glyphs → List Step) → ℕ → Type 0
PausesBreak meaning steps broken_kind =
    (circles : Option DottedCircles) (spans : List Span) (old new : Buffer) →
    All (λ span. span.kind ≤ 15) spans → spans_cover (length old.glyphs) spans ≡ true →
    merges old.level ≡ true → IsMonotone (clusters old.glyphs) →
    AtMostOneRepha circles (spans_setup spans broken_kind old).glyphs →
    PauseReordered circles meaning steps (spans_setup spans broken_kind old) new →
    BreaksBetweenSpans unnumbered unsafe_spans (paused_order circles meaning)
    (paused_clusters circles steps old.level) spans old.glyphs new.glyphs

abbrev pub PausesBreakLaw : Type 0
PausesBreakLaw = (meaning : Glyphs → Glyphs)
    (steps : Glyphs → List Step) (broken_kind : ℕ) →
    ReorderLaws meaning steps → MoveMerged steps → ReadsNoSerials meaning steps →
    PausesBreak meaning steps broken_kind
