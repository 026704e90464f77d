-- How far the second pass has come, which lays the sequences of a text from its end back.
use Rattle.std.specs.Prelude.{◌≡◌, ◌≤◌, ◌≤ℤ◌, ◌^◌, pos, ◌+◌, ◌-ℤ◌, ◌++◌, ℕ, ℤ, Bool, true, false, if◌then◌else◌, List, [], ◌∷◌, length, map, flat_map, replicate, reverse, take, drop}
use Rattle.std.specs.List.{AllByRecursion, list_all, zip}
use Rattle.shapers_buffer.specs.declared.buffer.glyph.GlyphPosition.{GlyphPosition}
use Rattle.shapers_buffer.specs.Glyphs.{Glyphs}
use Rattle.shapers_base.specs.declared.plan.arabic.StretchStart.{StretchStart}
use Rattle.shapers_base.specs.Font.{Font}
use Rattle.shapers_stretch.specs.Cells.{Cell, glyphs_of, positions_of, repeats}
use Rattle.shapers_stretch.specs.CountingWalk.{pen_behind, stands_at}
use Rattle.shapers_stretch.specs.Measure.{times_added, fits_i32, numbers_to_fit, overlap}
use Rattle.shapers_stretch.specs.Stretch.{Copy, Laying, copies, laid_at, laid_sequence, measured, moves, overflows, stretched, width_of}
use Rattle.shapers_stretch.specs.declared.ot_shaper_arabic_stretch.tiles.Pen.{Pen}
use Rattle.shapers_stretch.specs.declared.ot_shaper_arabic_stretch.measuring.Lay.{Lay}
use Rattle.shapers_stretch.specs.declared.ot_shaper_arabic_stretch.measuring.TileSequence.{TileSequence}

-- copies laid from a pen on
abbrev pub laid_on : Bool → ℤ → List Copy → List Cell
laid_on right_to_left pen [] = []
laid_on right_to_left pen (c ∷ cs) =
    laid_at (stands_at right_to_left pen c.move) c.tile
    ∷ laid_on right_to_left (pen_behind right_to_left pen c.move) cs

-- the offsets of cells
abbrev pub offsets : List Cell → List ℤ
offsets cs = map (λ c. c.1.x_offset) cs

-- These copies can be laid before the pen's place: there is room for them, and their offsets fit.
pub record CanLay (right_to_left : Bool) (copies : List Copy) (pen : Pen) (gs : Glyphs)
    (ps : List GlyphPosition) : Type 0 where
  pub fits : list_all fits_i32 (offsets (laid_on right_to_left pen.at copies)) ≡ true
  pub room : length copies ≤ pen.place
  pub within : pen.place ≤ length gs
  pub both : length gs ≡ length ps

-- Copies were laid from `before` to `after`: the first of them stands last, and what stands before
-- them is as it was.
pub record Lays (right_to_left : Bool) (copies : List Copy) (before after : Pen) (old now : List
    Cell) : Type 0 where
  pub pen : after.at ≡ pen_behind right_to_left before.at (moves copies)
  pub place : after.place + length copies ≡ before.place
  pub kept : take after.place now ≡ take after.place old
  pub behind : drop after.place now
      ≡ reverse (laid_on right_to_left before.at copies) ++ drop before.place old

-- how tiles are laid, from its parts
abbrev pub laying_by : Font → StretchStart → Bool → Laying
laying_by font choice right_to_left =
    record { font = font; choice = choice; right_to_left = right_to_left }

-- the text in the first cells of slices
abbrev pub text_in_slices : ℕ → Glyphs → List GlyphPosition → List Cell
text_in_slices end gs ps = take end (zip gs ps)

-- The text before `end` is unlaid: stretched it fills the places before `place`, and reading is
-- ahead.
pub record IsUnlaid (how : Laying) (gs : Glyphs) (ps : List GlyphPosition) (end place
    : ℕ) : Type 0 where
  pub both : length gs ≡ length ps
  pub room : length (stretched how (text_in_slices end gs ps)) ≡ place
  pub ahead : end ≤ place
  pub within : place ≤ length gs
  pub glyph_numbers : AllByRecursion (λ g. g.glyph_id ≤ 65535) (take end gs)
  pub fits : overflows how (text_in_slices end gs ps) ≡ false

-- what the unlaid text becomes, and what stands behind it
abbrev pub stretched_whole : Laying → Glyphs → List GlyphPosition → ℕ → ℕ → List Cell
stretched_whole how gs ps end place =
    stretched how (text_in_slices end gs ps) ++ drop place (zip gs ps)

-- in the middle of laying the whole: the writer never overtakes the reader
pub record IsLaidFrom (how : Laying) (whole : List Cell) (gs : Glyphs) (ps : List
    GlyphPosition) (end place : ℕ) : Type 0 where
  pub left : IsUnlaid how gs ps end place
  pub joined : stretched_whole how gs ps end place ≡ whole

-- The first cells of these slices are a text that stretched fills them: glyph numbers are in range,
-- and no number of it overflows.
pub record HasRoomForTiles (how : Laying) (gs : Glyphs) (ps : List GlyphPosition)
    (len : ℕ) : Type 0 where
  pub both : length gs ≡ length ps
  pub in_range : len ≤ length gs
  pub room : length (stretched how (text_in_slices len gs ps)) ≡ length gs
  pub glyph_numbers : AllByRecursion (λ g. g.glyph_id ≤ 65535) (take len gs)
  pub fits : overflows how (text_in_slices len gs ps) ≡ false

-- the copies of one tile by these numbers, and those of a sequence's tiles, from the last to the
-- first
abbrev pub copies_with : Font → ℕ → ℤ → Cell → List Copy
copies_with font n o c =
    let width = width_of font c.0 in
    record { tile = c; move = width }
    ∷ (if repeats c.0 then replicate n (record { tile = c; move = width -ℤ o }) else [])

abbrev pub copies_by : Font → Lay → Cell → List Copy
copies_by font lay c = copies_with font lay.added lay.overlap c

abbrev pub sequence_copies : Font → Lay → List Cell → List Copy
sequence_copies font lay tiles = flat_map (copies_by font lay) (reverse tiles)

-- the numbers by which the copies of a sequence are laid
pub record IsLayOf (z : TileSequence) (lay : Lay) : Type 0 where
  pub added : lay.added ≡ times_added z
  pub overlap : lay.overlap ≡ overlap z
  pub low : pos 0 ≤ℤ lay.overlap
  pub high : lay.overlap ≤ℤ pos (2 ^ 34)

-- What stands before `tiles` and what stands from there to `end` in slices: a word and its
-- sequence, where no number overflows and where there is room for the sequence's copies before
-- `place`.
pub record CanLaySequence (how : Laying) (word tiles : List Cell) (first end place : ℕ)
    (gs : Glyphs) (ps : List GlyphPosition) : Type 0 where
  pub order : first ≤ end
  pub ahead : end ≤ place
  pub within : place ≤ length gs
  pub both : length gs ≡ length ps
  pub glyph_numbers : AllByRecursion (λ g. g.glyph_id ≤ 65535) (take end gs)
  pub fits : let z = measured how.font (positions_of word) (glyphs_of tiles) in
      list_all fits_i32 (numbers_to_fit how.choice z ++ offsets (laid_sequence how z tiles)) ≡ true
  pub room : first
      + length (copies how.font (measured how.font (positions_of word) (glyphs_of tiles)) tiles)
      ≤ place
