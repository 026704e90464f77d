-- A set-up by spans, and pauses that run directly after it, cut between any two spans.
use Rattle.std.specs.Prelude.{ℕ, ◌≡◌, ◌≤◌, true, List, Option, ◌++◌, All, length, map}
use Rattle.shapers_buffer.specs.Glyphs.{Glyph, Glyphs}
use Rattle.shapers_buffer.specs.declared.buffer.syllables.Span.{Span}
use Rattle.shapers_buffer.specs.Buffer.{Buffer}
use Rattle.shapers_buffer.specs.Glyph.{clusters, order_view}
use Rattle.shapers_buffer.specs.Syllables.{spans_cover}
use Rattle.shapers_clusters.specs.Cuts.{ShareNone}
use Rattle.shapers_clusters.specs.Steps.{Step}
use Rattle.shapers_syllabic.specs.declared.ot_shaper_syllabic.circles.DottedCircles.{DottedCircles}
use Rattle.shapers_syllabic.specs.Borders.{MeetAtBorder, SameButSerials, spans_setup, unnumbered}
use Rattle.shapers_syllabic.specs.Reordering.{PauseReordered}
use Rattle.shapers_syllabic.specs.ReorderingLaws.{ReadsNoSerials, ReorderLaws, paused_clusters, paused_order}
use Rattle.shapers_syllabic.specs.Syllabic.{unsafe_spans}

-- What pauses make of a text is what they make of its halves, one after the other: in the order
-- view, as far as the view shows it; and where the halves share no cluster, in the clusters too.
pub record HalvesJoined (view : Glyph → Glyph) (made : Glyphs →
    Glyphs) (clusters_made : Glyphs →
    List ℕ) (gs hs xs ys new : Glyphs) : Type 0 where
  pub order : map view (order_view new) ≡ map view (made xs) ++ map view (made ys)
  pub in_clusters : ShareNone gs hs → clusters new ≡ clusters_made xs ++ clusters_made ys

-- So at every cut between two spans. Each half is set up by the spans that cover it, and its bytes
-- may then have other serials, as long as neighbouring syllables differ.
abbrev pub CutsBetweenSpans : (Glyph → Glyph) →
    (List Span → Glyphs → Glyphs) →
    (Glyphs → Glyphs) → (Glyphs → List ℕ) → List Span →
    Glyphs → Glyphs → Type 0
CutsBetweenSpans view setup made clusters_made spans old new =
    (ss ts : List Span) (gs hs xs ys : Glyphs) →
    spans ≡ ss ++ ts → old ≡ gs ++ hs → spans_cover (length gs) ss ≡ true →
    spans_cover (length hs) ts ≡ true →
    SameButSerials (setup ss gs) xs → SameButSerials (setup ts hs) ys →
    HalvesJoined view made clusters_made gs hs xs ys new

-- So at every border of syllables: each half may have other serials, as long as neighbours differ.
abbrev pub CutsAtBorders : (Glyph → Glyph) →
    (Glyphs → Glyphs) → (Glyphs → List ℕ) →
    Glyphs → Glyphs → Type 0
CutsAtBorders view made clusters_made old new = (gs hs xs ys : Glyphs) →
    old ≡ gs ++ hs → MeetAtBorder gs hs → SameButSerials gs xs → SameButSerials hs ys →
    HalvesJoined view made clusters_made gs hs xs ys new

-- A set-up and a reordering pause directly after it, whatever circles it opens: serials of bytes
-- apart.
abbrev pub PauseCutsBetweenSpans : (Glyphs → Glyphs) →
    (Glyphs → List Step) → ℕ → Type 0
PauseCutsBetweenSpans meaning steps broken_kind =
    (circles : Option DottedCircles) (spans : List Span) (old new : Buffer) →
    All (λ span. span.kind ≤ 15) spans →
    PauseReordered circles meaning steps (spans_setup spans broken_kind old) new →
    CutsBetweenSpans unnumbered unsafe_spans (paused_order circles meaning)
    (paused_clusters circles steps old.level) spans old.glyphs new.glyphs

abbrev pub PausesCutBetweenSpans : Type 0
PausesCutBetweenSpans =
    (meaning : Glyphs → Glyphs)
    (steps : Glyphs → List Step) (broken_kind : ℕ) →
    ReorderLaws meaning steps → ReadsNoSerials meaning steps →
    PauseCutsBetweenSpans meaning steps broken_kind
