-- Steps that leave the results of a text's pieces side by side.
use Rattle.std.specs.Prelude.{ℕ, ◌<◌, ◌≡◌, true, List, ◌++◌, length}
use Rattle.shapers_arabic.specs.Breaks.{back_at, front_at}
use Rattle.shapers_buffer.specs.Glyphs.{Glyphs}
use Rattle.shapers_buffer.specs.declared.buffer.syllables.Span.{Span}
use Rattle.shapers_buffer.specs.Buffer.{Buffer}
use Rattle.shapers_buffer.specs.Glyph.{clusters, order_view}
use Rattle.shapers_buffer.specs.Syllables.{spans_cover}
use Rattle.shapers_clusters.specs.Breaks.{IsClear}
use Rattle.shapers_clusters.specs.Cuts.{ShareNone}
use Rattle.shapers_syllabic.specs.Borders.{SameButSerials}

-- the same text to those who read neither glyph flags nor serials of syllables
abbrev pub SameButFlags : Glyphs → Glyphs → Type 0
SameButFlags gs hs =
    SameButSerials (order_view gs) (order_view hs) × (clusters gs ≡ clusters hs)

-- A text cut in two at a clear place,
pub record CutWhereClear (text front back : Glyphs) : Type 0 where
  pub parts : text ≡ front ++ back
  pub some_in_front : 0 < length front
  pub some_behind : 0 < length back
  pub clear : IsClear text (length front)

-- or, where it has the spans of its syllables, between two of these.
pub record SpannedText : Type 0 where
  pub spans : List Span
  pub glyphs : Glyphs

pub record CutAtSpans (text before behind : SpannedText) : Type 0 where
  pub split : text.spans ≡ before.spans ++ behind.spans
  pub parts : text.glyphs ≡ before.glyphs ++ behind.glyphs
  pub first : spans_cover (length before.glyphs) before.spans ≡ true
  pub second : spans_cover (length behind.glyphs) behind.spans ≡ true
  pub apart : ShareNone before.glyphs behind.glyphs

-- A buffer cut in two: each half has what the buffer has, with its inner context empty.
pub record CutBuffer (whole before behind : Buffer) : Type 0 where
  pub place : ℕ
  pub some_in_front : 0 < place
  pub some_behind : place < length whole.glyphs
  pub front : before ≡ front_at place whole
  pub back : behind ≡ back_at place whole

-- A step made these two of a text's pieces: the text was cut, and each piece by itself becomes what
-- it became in the text.
pub record MadeOfPieces (X : Type 0) (Cut : X → X → X → Type 0) (Makes : X →
    Glyphs → Type 0) (text : X) (front back : Glyphs) : Type 0 where
  pub before : X
  pub behind : X
  pub pieces : Cut text before behind
  pub first : Makes before front
  pub second : Makes behind back

-- so wherever what it made of the text is cut at a clear place
abbrev pub BreaksWhereCleared : (X : Type 0) → (X → X → X → Type 0) →
    (X → Glyphs → Type 0) → X → Glyphs → Type 0
BreaksWhereCleared X Cut Makes text made = (front back : Glyphs) →
    CutWhereClear made front back → MadeOfPieces X Cut Makes text front back

-- what lookups make of every text that is the same as one
abbrev pub MakesOf : (Glyphs → Glyphs) → Glyphs →
    Glyphs → Type 0
MakesOf lookups piece made =
    (same : Glyphs) → SameButFlags same piece → SameButFlags (lookups same) made

-- Lookups leave the pieces' results of a text side by side: wherever what they make of it is clear,
-- the text was clear, and they make the parts of its pieces.
abbrev pub LeavesPieces : (Glyphs → Glyphs) → Glyphs →
    Type 0
LeavesPieces lookups text = BreaksWhereCleared Glyphs CutWhereClear
    (MakesOf lookups) text (lookups text)
