-- Steps that leave the positions of a text's pieces side by side.
use Rattle.std.specs.Prelude.{◌≡◌, ◌++◌, length}
use Rattle.shapers_buffer.specs.Buffer.{Buffer}
use Rattle.shapers_break_laws.specs.Pieces.{CutWhereClear}
use Rattle.shapers_editing.specs.PipelineBreaks.{AreAsIn, Numbering}
use Rattle.opentype_gpos.specs.Kerned.{PlacedText}

-- a buffer's glyphs with their positions
abbrev pub placed_in : Buffer → PlacedText
placed_in b = record { glyphs = b.glyphs; positions = b.positions }

-- Glyphs with positions cut in two at a clear place; each keeps its own position.
pub record CutPlaced (text front back : PlacedText) : Type 0 where
  pub glyphs : CutWhereClear text.glyphs front.glyphs back.glyphs
  pub positions : text.positions ≡ front.positions ++ back.positions
  pub paired : length front.positions ≡ length front.glyphs

-- A step made these two of a text's pieces: the text was cut, and each piece by itself becomes what
-- it became in the text, with its positions.
pub record PlacedOfPieces (X : Type 0) (Cut : X → X → X → Type 0) (Makes : X → PlacedText → Type 0)
    (text : X) (front back : PlacedText) : Type 0 where
  pub before : X
  pub behind : X
  pub pieces : Cut text before behind
  pub first : Makes before front
  pub second : Makes behind back

-- so wherever what it made of the text is cut at a clear place
abbrev pub BreaksWherePlaced : (X : Type 0) → (X → X → X → Type 0) → (X → PlacedText → Type 0) → X →
    PlacedText → Type 0
BreaksWherePlaced X Cut Makes text made = (front back : PlacedText) →
    CutPlaced made front back → PlacedOfPieces X Cut Makes text front back

-- A buffer that has the glyphs of a part of a text, but for glyph flags and numbers, at the same
-- positions, and the level, direction and script of the text. It takes as many glyphs.
pub record IsPlacedPiece (numbered : Numbering) (text : Buffer) (part : PlacedText) (b : Buffer) :
    Type 0 where
  pub same : AreAsIn numbered part.glyphs b.glyphs
  pub positions : b.positions ≡ part.positions
  pub level : b.level ≡ text.level
  pub direction : b.direction ≡ text.direction
  pub script : b.script ≡ text.script
  pub room : b.max_len ≡ text.max_len

-- a step makes of each buffer of a piece one of its part, with the positions that this got
abbrev pub MakesPlaced : Numbering → Buffer → (Buffer → Buffer) → PlacedText → PlacedText → Type 0
MakesPlaced numbered text step piece made =
    (one : Buffer) → IsPlacedPiece numbered text piece one →
    IsPlacedPiece numbered text made (step one)

-- A step leaves the positions of this text's pieces side by side: wherever what it made is clear,
-- the text was, and each piece by itself gets the positions of its part.
abbrev pub LeavesPositions : Numbering → Buffer → (Buffer → Buffer) → Buffer → Type 0
LeavesPositions numbered text step b =
    BreaksWherePlaced PlacedText CutPlaced (MakesPlaced numbered text step) (placed_in b)
    (placed_in (step b))

-- what such a step asks of a text: a position for each glyph, and the direction of the pieces
pub record IsPaired (text b : Buffer) : Type 0 where
  pub paired : length b.positions ≡ length b.glyphs
  pub direction : b.direction ≡ text.direction
