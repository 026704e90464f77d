-- Borders of syllables, and texts that differ in the serials of their syllables alone.
use Rattle.std.specs.Prelude.{ℕ, ◌-◌, ◌<◌, ◌≤◌, ◌≡◌, true, ◌||◌, List, ◌++◌, All, length, map, slice_index}
use Rattle.std.proofs.Common.{◌≢◌}
use Rattle.shapers_buffer.specs.Glyphs.{Glyph, Glyphs}
use Rattle.shapers_buffer.specs.declared.buffer.syllables.Span.{Span}
use Rattle.shapers_buffer.specs.Buffer.{Buffer}
use Rattle.shapers_buffer.specs.Syllables.{kind_of, spans_cover, syllables, with_spans}
use Rattle.shapers_syllabic.specs.Syllabic.{unsafe_spans, with_unsafe_syllables}

-- texts meet at a border of syllables: the glyphs there have different bytes, if there are both
abbrev pub MeetAtBorder : Glyphs → Glyphs → Type 0
MeetAtBorder gs hs = 0 < length gs → 0 < length hs →
    slice_index (map (λ g. g.syllable) gs) (length gs - 1)
    ≢ slice_index (map (λ g. g.syllable) hs) 0

-- the glyph with the kind of its syllable alone, without the serial
abbrev pub unnumbered : Glyph → Glyph
unnumbered g = record g { syllable = kind_of g.syllable }

-- the same syllables, but for their serials
abbrev pub SameButSerials : Glyphs → Glyphs → Type 0
SameButSerials gs hs = map (map unnumbered) (syllables gs) ≡ map (map unnumbered) (syllables hs)

-- the buffer set up by spans: their bytes, the mark of a broken one, no break inside a syllable
abbrev pub spans_setup : List Span → ℕ → Buffer → Buffer
spans_setup spans broken_kind b = with_unsafe_syllables (with_spans spans broken_kind b)

-- Spans cut between two of them: what the first make of their glyphs, and behind it, serials apart,
-- what the others make of theirs; the two meet at a border. It is broken where one of them is.
pub record SetupOfHalves (made : List Span → Glyphs → Glyphs) (broken_kind : ℕ) (ss ts : List Span)
    (gs hs shown : Glyphs) (old new : Buffer) : Type 0 where
  pub behind : Glyphs
  pub parts : shown ≡ made ss gs ++ behind
  pub renumbered : SameButSerials behind (made ts hs)
  pub border : MeetAtBorder (made ss gs) behind
  pub broken : new.broken
      ≡ ((with_spans ss broken_kind old).broken || (with_spans ts broken_kind old).broken)

-- so between any two spans, by what they make of glyphs, of the new glyphs as they are shown
abbrev pub SetupCuts : (List Span → Glyphs → Glyphs) → ℕ → List Span →
    Glyphs → Buffer → Buffer → Type 0
SetupCuts made broken_kind spans shown old new =
    (ss ts : List Span) (gs hs : Glyphs) →
    spans ≡ ss ++ ts → old.glyphs ≡ gs ++ hs → spans_cover (length gs) ss ≡ true →
    spans_cover (length hs) ts ≡ true →
    SetupOfHalves made broken_kind ss ts gs hs shown old new

abbrev pub SetupCutsAtSpans : List Span → ℕ → Buffer → Buffer → Type 0
SetupCutsAtSpans spans broken_kind old new =
    SetupCuts unsafe_spans broken_kind spans new.glyphs old new

abbrev pub SpansCutLaw : Type 0
SpansCutLaw = (spans : List Span) (broken_kind : ℕ) (old : Buffer) →
    All (λ span. span.kind ≤ 15) spans →
    SetupCutsAtSpans spans broken_kind old (spans_setup spans broken_kind old)
