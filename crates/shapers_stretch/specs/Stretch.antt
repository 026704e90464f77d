-- Stretched marks: the tiles of a sequence are laid, and laid again, over the word before it.
-- (OpenType
-- `stch`.)
use Rattle.std.specs.Prelude.{ℕ, nat_lt, ℤ, pos, ◌+ℤ◌, ◌-ℤ◌, Bool, not, ◌&&◌, List, [], ◌∷◌, ◌++◌, length, map, filter, flat_map, replicate, reverse, take, drop, Option, None, Some, if◌then◌else◌}
use Rattle.std.specs.List.{list_all, list_any, sum_by, zip}
use Rattle.shapers_buffer.specs.declared.buffer.glyph.GlyphPosition.{GlyphPosition}
use Rattle.shapers_buffer.specs.Glyphs.{Glyph, Glyphs}
use Rattle.shapers_buffer.specs.declared.buffer.level.Direction.{Direction}
use Rattle.shapers_buffer.specs.declared.buffer.level.Direction.TheVariants.{RightToLeft}
use Rattle.shapers_buffer.specs.declared.buffer.refusal.ShaperError.{ShaperError}
use Rattle.shapers_buffer.specs.declared.buffer.refusal.ShaperError.TheVariants.{StretchOverflow}
use Rattle.shapers_buffer.specs.Buffer.{Buffer}
use Rattle.shapers_buffer.specs.GlyphFlags.{flagged}
use Rattle.shapers_buffer.specs.Lists.{each_after}
use Rattle.shapers_base.specs.declared.plan.arabic.StretchStart.{StretchStart}
use Rattle.shapers_base.specs.Font.{Font}
use Rattle.shapers_stretch.specs.Cells.{Cell, glyphs_of, positions_of, repeats, parts_of_text, tiles_of, word_of, before_word}
use Rattle.shapers_stretch.specs.declared.ot_shaper_arabic_stretch.measuring.TileSequence.{TileSequence}
use Rattle.shapers_stretch.specs.Measure.{times_added, copies_added, overlap, start, numbers_to_fit, fits_i32, total}
use Rattle.std.specs.Prelude.{true, false}

-- how a font's tiles are laid: from which start, and in which direction
pub record Laying : Type 0 where
  pub font : Font
  pub choice : StretchStart
  pub right_to_left : Bool

-- how far a glyph of the font moves the pen
abbrev pub width_of : Font → Glyph → ℤ
width_of font g = font.advance (record { 0 = g.glyph_id })

-- the tiles of a sequence that repeat, and those that don't
abbrev pub repeating : Glyphs → Glyphs
repeating tiles = filter repeats tiles

abbrev pub fixed : Glyphs → Glyphs
fixed tiles = filter (λ g. not (repeats g)) tiles

-- what tiles and the word before them measure
abbrev pub measured : Font → List GlyphPosition → Glyphs → TileSequence
measured font word tiles = record {
  word = total (map (λ p. p.x_advance) word);
  fixed = total (map (width_of font) (fixed tiles));
  repeating = total (map (width_of font) (repeating tiles));
  repeaters = length (repeating tiles);
}

-- what the sequence of a part measures
abbrev pub sequence_of_part : Font → List Cell → TileSequence
sequence_of_part font part = measured font (positions_of (word_of part)) (glyphs_of (tiles_of part))

-- A copy of a tile, and how far it moves the pen.
pub record Copy : Type 0 where
  pub tile : Cell
  pub move : ℤ

-- the copies of one tile: one, and where it repeats the added ones, each less far by the overlap
abbrev pub copies_of : Font → TileSequence → Cell → List Copy
copies_of font z c =
    let width = width_of font c.0 in
    record { tile = c; move = width }
    ∷ (if repeats c.0
    then replicate (times_added z) (record { tile = c; move = width -ℤ overlap z })
    else [])

-- the copies of a sequence as they are laid, from its last tile to its first
abbrev pub copies : Font → TileSequence → List Cell → List Copy
copies font z tiles = flat_map (copies_of font z) (reverse tiles)

-- how far these move the pen together
abbrev pub moves : List Copy → ℤ
moves laid = total (map (λ copy. copy.move) laid)

-- where a copy stands behind others: right to left behind its own move, else before it
abbrev pub offset : Bool → ℤ → List Copy → Copy → ℤ
offset right_to_left from before copy =
    if right_to_left then from -ℤ moves (before ++ copy ∷ []) else from +ℤ moves before

-- the copy as a cell: its tile, without advance, and there
abbrev pub laid_at : ℤ → Cell → Cell
laid_at x c = let at : GlyphPosition = record c.1 { x_advance = pos 0; x_offset = x } in (c.0, at)

-- the laid list of a sequence: each copy where those before it leave it
abbrev pub laid : Bool → ℤ → List Copy → List Cell
laid right_to_left from copies =
    map (λ p. laid_at (offset right_to_left from p.0 p.1) p.1.tile) (each_after [] copies)

-- the laid list of a part's sequence, of which these are the tiles
abbrev pub laid_sequence : Laying → TileSequence → List Cell → List Cell
laid_sequence how z tiles =
    laid how.right_to_left (start how.choice how.right_to_left z) (copies how.font z tiles)

-- no break inside these cells
abbrev pub unbroken : List Cell → List Cell
unbroken cs = zip (flagged 3 (glyphs_of cs)) (positions_of cs)

-- A part stretched: word and sequence flagged together, the laid list for the sequence, later
-- copies first.
abbrev pub stretched_over : Laying → TileSequence → List Cell → List Cell → List Cell
stretched_over how z word tiles =
    let whole = unbroken (word ++ tiles) in
    take (length word) whole ++ reverse (laid_sequence how z (drop (length word) whole))

abbrev pub has_sequence : List Cell → Bool
has_sequence part = nat_lt 0 (length (tiles_of part))

abbrev pub stretched_part : Laying → List Cell → List Cell
stretched_part how part =
    if not (has_sequence part) then part
    else before_word part
    ++ stretched_over how (sequence_of_part how.font part) (word_of part) (tiles_of part)

-- a text stretched, part by part
abbrev pub stretched : Laying → List Cell → List Cell
stretched how cs = flat_map (stretched_part how) (parts_of_text cs)

-- whether a number of a part's sequence, or an offset of its laid list, doesn't fit 32 bits
abbrev pub part_overflows : Laying → List Cell → Bool
part_overflows how part =
    let z = sequence_of_part how.font part in
    has_sequence part
    && not (list_all fits_i32 (numbers_to_fit how.choice z
    ++ map (λ c. c.1.x_offset) (laid_sequence how z (tiles_of part))))

abbrev pub overflows : Laying → List Cell → Bool
overflows how cs = list_any (part_overflows how) (parts_of_text cs)

-- the cells of a buffer in working order: from right to left as they stand, else backwards
abbrev pub goes_leftward : Direction → Bool
goes_leftward RightToLeft = true
goes_leftward _ = false

abbrev pub in_working_order : {X : Type 0} → Bool → List X → List X
in_working_order right_to_left xs = if right_to_left then xs else reverse xs

abbrev pub cells : Buffer → List Cell
cells b = zip b.glyphs b.positions

abbrev pub cells_in_order : Buffer → List Cell
cells_in_order b = in_working_order (goes_leftward b.direction) (cells b)

-- how many copies are added to the sequences of a buffer together
abbrev pub copies_in : Font → Buffer → ℕ
copies_in font b =
    if b.stch
    then sum_by (λ part. copies_added (sequence_of_part font part))
    (parts_of_text (cells_in_order b))
    else 0

-- how the tiles of a buffer are laid
abbrev pub laying : Font → StretchStart → Buffer → Laying
laying font choice b =
    record { font = font; choice = choice; right_to_left = goes_leftward b.direction }

abbrev pub stretched_cells : Font → StretchStart → Buffer → List Cell
stretched_cells font choice b =
    let how = laying font choice b in
    in_working_order how.right_to_left (stretched how (cells_in_order b))

-- the buffer stretched: nothing without the mark "has stch"
abbrev pub with_cells : List Cell → Buffer → Buffer
with_cells cs b = record b { glyphs = glyphs_of cs; positions = positions_of cs }

abbrev pub marks_stretched : Font → StretchStart → Buffer → Buffer
marks_stretched font choice b = if b.stch then with_cells (stretched_cells font choice b) b else b

-- the refusal that its numbers give, if there is one
abbrev pub stretch_refusal : Font → StretchStart → Buffer → Option ShaperError
stretch_refusal font choice b =
    let how = laying font choice b in
    if b.stch && overflows how (cells_in_order b) then Some StretchOverflow else None
