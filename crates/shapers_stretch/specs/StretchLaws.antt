-- The law of widths: how wide the laid stretches of a text are, read from the text after.
use Rattle.std.specs.Prelude.{◌≡◌, ℕ, true, false, List, [], ◌++◌, length, map, flat_map, replicate, reverse, pos, ℤ, ◌+ℤ◌, ◌≤ℤ◌, ◌<ℤ◌, ◌⊎◌, ◌+◌}
use Rattle.std.specs.List.{AllByRecursion, AllZip, Contains}
use Rattle.shapers_buffer.specs.Glyphs.{Glyph, Glyphs}
use Rattle.shapers_buffer.specs.Buffer.{Buffer}
use Rattle.shapers_buffer.specs.Lists.{each_after}
use Rattle.shapers_base.specs.declared.plan.arabic.StretchStart.{StretchStart}
use Rattle.shapers_base.specs.Font.{Font}
use Rattle.shapers_clusters.specs.FlagLaw.{FlagsAdded}
use Rattle.shapers_stretch.specs.Cells.{Cell, before_tiles, parts_of_text, positions_of, tiles_of}
use Rattle.shapers_stretch.specs.declared.ot_shaper_arabic_stretch.measuring.TileSequence.{TileSequence}
use Rattle.shapers_stretch.specs.Measure.{left, laid_width, copies_added, start}
use Rattle.shapers_stretch.specs.Stretch.{Copy, Laying, cells_in_order, copies, has_sequence, laying, marks_stretched, moves, offset, sequence_of_part}

-- the repeating tiles have a width, and fit into what the fixed ones leave of the word
abbrev pub TilesFit : TileSequence → Type 0
TilesFit z = (pos 0 <ℤ z.repeating) × (z.repeating ≤ℤ left z)

-- What is laid is as wide as the word, or wider by less than one unit for each added copy.
abbrev pub CoversTheWord : TileSequence → Type 0
CoversTheWord z =
    let width = laid_width z in
    (z.word ≤ℤ width) × ((width ≡ z.word) ⊎ (width <ℤ (z.word +ℤ pos (copies_added z))))

-- the glyph numbers of cells
abbrev pub ids : List Cell → List ℕ
ids cs = map (λ c. c.0.glyph_id) cs

-- the copies of a part's sequence as they are laid, and where each stands
abbrev pub laid_copies : Laying → List Cell → List Copy
laid_copies how part = copies how.font (sequence_of_part how.font part) (tiles_of part)

abbrev pub offsets_in : Laying → List Cell → List ℤ
offsets_in how part =
    let from = start how.choice how.right_to_left (sequence_of_part how.font part) in
    map (λ p. offset how.right_to_left from p.0 p.1) (each_after [] (laid_copies how part))

-- What a part with a sequence became. In front stands what stood before the sequence, with its
-- positions; behind it the copies, the one that is laid first last. They have no advance, and stand
-- where their moves lead, which together are the laid width; where the tiles fit, that covers the
-- word.
pub record SequenceIsLaid (how : Laying) (part piece : List Cell) : Type 0 where
  pub front : List Cell
  pub copies : List Cell
  pub joined : piece ≡ front ++ reverse copies
  pub front_ids : ids front ≡ ids (before_tiles part)
  pub front_positions : positions_of front ≡ positions_of (before_tiles part)
  pub tiles : ids copies ≡ map (λ copy. copy.tile.0.glyph_id) (laid_copies how part)
  pub many : length copies ≡ length (tiles_of part) + copies_added (sequence_of_part how.font part)
  pub advances : map (λ c. c.1.x_advance) copies ≡ replicate (length copies) (pos 0)
  pub offsets : map (λ c. c.1.x_offset) copies ≡ offsets_in how part
  pub width : moves (laid_copies how part) ≡ laid_width (sequence_of_part how.font part)
  pub covers : TilesFit (sequence_of_part how.font part) →
      CoversTheWord (sequence_of_part how.font part)

-- a part without a sequence stays
abbrev pub PartIsLaid : Laying → List Cell → List Cell → Type 0
PartIsLaid how part piece =
    (has_sequence part ≡ false → piece ≡ part)
    × (has_sequence part ≡ true → SequenceIsLaid how part piece)

-- The text before is its parts, and the text after what each of them became, one after another.
pub record TextIsLaid (how : Laying) (old new : List Cell) : Type 0 where
  pub pieces : List (List Cell)
  pub before : flat_map (λ part. part) (parts_of_text old) ≡ old
  pub after : flat_map (λ piece. piece) pieces ≡ new
  pub each : AllZip (PartIsLaid how) (parts_of_text old) pieces

-- So it is, in working order, for what stretching makes of a buffer that is marked to have
-- stretches.
abbrev pub WidthsHold : Type 0
WidthsHold = (font : Font) (choice : StretchStart) (old new : Buffer) →
    old.stch ≡ true → length old.positions ≡ length old.glyphs →
    new ≡ marks_stretched font choice old →
    (length new.positions ≡ length new.glyphs)
    × TextIsLaid (laying font choice old) (cells_in_order old) (cells_in_order new)

-- the same of a text before and after, where it is marked to have stretches
abbrev pub IsLaidOver : Font → StretchStart → Buffer → Buffer → Type 0
IsLaidOver font choice old new =
    old.stch ≡ true →
    TextIsLaid (laying font choice old) (cells_in_order old) (cells_in_order new)

-- each glyph is a copy of an old one, with its cluster and its glyph flags, and maybe others
abbrev pub AreCopies : Glyphs → Glyphs → Type 0
AreCopies olds news =
    AllByRecursion
    (λ new. (old : Glyph) × (Contains olds old × FlagsAdded old new)) news
