-- Where a text may be broken that spans cut into syllables.
use Rattle.std.specs.Prelude.{ℕ, ◌-◌, ◌<◌, ◌≤◌, ◌≡◌, true, List, ◌++◌, All, drop, get_or, length, sum_by, take}
use Rattle.shapers_buffer.specs.Glyphs.{Glyph, Glyphs}
use Rattle.shapers_buffer.specs.declared.buffer.syllables.Span.{Span}
use Rattle.shapers_buffer.specs.Buffer.{Buffer}
use Rattle.shapers_buffer.specs.Glyph.{default_glyph}
use Rattle.shapers_buffer.specs.Syllables.{spans_cover}
use Rattle.shapers_clusters.specs.Breaks.{IsClear}
use Rattle.shapers_clusters.specs.Flags.{bit_at}
use Rattle.shapers_syllabic.specs.Borders.{SetupOfHalves, spans_setup}
use Rattle.shapers_syllabic.specs.Syllabic.{unsafe_spans}

-- place p is a border of spans: the first of them cover the p glyphs before it
pub record SpanBorder (spans : List Span) (p : ℕ) : Type 0 where
  pub front : List Span
  pub back : List Span
  pub split : spans ≡ front ++ back
  pub place : sum_by (λ span. span.len) front ≡ p

-- the glyph is unsafe to break and unsafe to concatenate: bits 1 and 2
abbrev pub IsFlagged : Glyph → Type 0
IsFlagged g = (bit_at 0 g.mask ≡ 1) × (bit_at 1 g.mask ≡ 1)

-- of the two glyphs that meet at place p, the one of the greater cluster is flagged
pub record FlaggedAt (gs : Glyphs) (p : ℕ) : Type 0 where
  pub rising : (get_or gs (p - 1) default_glyph).cluster < (get_or gs p default_glyph).cluster →
      IsFlagged (get_or gs p default_glyph)
  pub falling : (get_or gs p default_glyph).cluster < (get_or gs (p - 1) default_glyph).cluster →
      IsFlagged (get_or gs (p - 1) default_glyph)

-- so at every place that is no border of spans
abbrev pub FlagsInsideSpans : List Span → Glyphs → Type 0
FlagsInsideSpans spans new =
    (p : ℕ) → 0 < p → p < length new → (SpanBorder spans p → ⊥) → FlaggedAt new p

-- At a clear place the set-up may be broken: it is a border of spans, and the set-up of the text is
-- that of its halves, serials apart.
pub record SetupBroken (spans : List Span) (broken_kind p : ℕ) (old new : Buffer) : Type 0 where
  pub border : SpanBorder spans p
  pub halves : SetupOfHalves unsafe_spans broken_kind border.front border.back
      (take p old.glyphs) (drop p old.glyphs) new.glyphs old new

abbrev pub BreaksSetup : List Span → ℕ → Buffer → Buffer → Type 0
BreaksSetup spans broken_kind old new =
    (p : ℕ) → 0 < p → p < length new.glyphs → IsClear new.glyphs p →
    SetupBroken spans broken_kind p old new

-- every set-up by spans, whatever the clusters
abbrev pub SetupBreaksLaw : Type 0
SetupBreaksLaw = (spans : List Span) (broken_kind : ℕ) (old : Buffer) →
    All (λ span. span.kind ≤ 15) spans → spans_cover (length old.glyphs) spans ≡ true →
    FlagsInsideSpans spans (spans_setup spans broken_kind old).glyphs
    × BreaksSetup spans broken_kind old (spans_setup spans broken_kind old)
