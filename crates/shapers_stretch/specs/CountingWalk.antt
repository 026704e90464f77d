-- How the first pass finds what is added: where copies stand by how far each moves the pen, and how
-- far it has come.
use Rattle.std.specs.Prelude.{◌≡◌, ◌≤◌, ◌+◌, ◌^◌, ◌≤ℤ◌, ℕ, ℤ, pos, negsuc, ◌+ℤ◌, ◌-ℤ◌, ◌*ℤ◌, Bool, ◌&&◌, true, false, List, [], ◌∷◌, length, reverse, take, flat_map, replicate, Option, None, Some, if◌then◌else◌}
use Rattle.std.specs.List.{list_all}
use Rattle.shapers_buffer.specs.Glyphs.{Glyph, Glyphs}
use Rattle.shapers_base.specs.declared.plan.arabic.StretchStart.{StretchStart}
use Rattle.shapers_buffer.specs.declared.buffer.refusal.ShaperError.{ShaperError}
use Rattle.shapers_buffer.specs.declared.buffer.refusal.ShaperError.TheVariants.{StretchOverflow}
use Rattle.shapers_base.specs.Font.{Font}
use Rattle.shapers_stretch.specs.Cells.{Cell, repeats}
use Rattle.shapers_stretch.specs.declared.ot_shaper_arabic_stretch.measuring.Lay.{Lay}
use Rattle.shapers_stretch.specs.declared.ot_shaper_arabic_stretch.measuring.TileSequence.{TileSequence}
use Rattle.shapers_stretch.specs.Lays.{lay_of}
use Rattle.shapers_stretch.specs.Measure.{copies_added, fits_i32, numbers_to_fit, start, total}
use Rattle.shapers_stretch.specs.Stretch.{Laying, overflows, stretched, width_of}

-- where a copy stands when the pen is here, and where the pen is behind it
abbrev pub stands_at : Bool → ℤ → ℤ → ℤ
stands_at true pen move = pen -ℤ move
stands_at false pen move = pen

abbrev pub pen_behind : Bool → ℤ → ℤ → ℤ
pen_behind true pen move = pen -ℤ move
pen_behind false pen move = pen +ℤ move

-- where the last of copies that each move the pen so far stands, when it is behind them
abbrev pub last_at : Bool → ℤ → ℤ → ℤ
last_at true behind move = behind
last_at false behind move = behind -ℤ move

-- where copies that move the pen so far stand, from here on
abbrev pub offsets_on : Bool → ℤ → List ℤ → List ℤ
offsets_on right_to_left pen [] = []
offsets_on right_to_left pen (move ∷ moves) =
    stands_at right_to_left pen move
    ∷ offsets_on right_to_left (pen_behind right_to_left pen move) moves

-- how far the copies of a tile move it, and those of a sequence
abbrev pub moves_of : Font → Lay → Glyph → List ℤ
moves_of font lay g =
    let width = width_of font g in
    width ∷ (if repeats g then replicate lay.added (width -ℤ lay.overlap) else [])

abbrev pub sequence_moves : Font → Lay → Glyphs → List ℤ
sequence_moves font lay tiles = flat_map (moves_of font lay) (reverse tiles)

-- whether the offsets of copies fit 32 bits
abbrev pub offsets_fit : Bool → ℤ → List ℤ → Bool
offsets_fit right_to_left pen moves = list_all fits_i32 (offsets_on right_to_left pen moves)

-- a number far from the ends of its 64 bits
pub record IsNumber (x : ℤ) : Type 0 where
  pub low : negsuc (2 ^ 40) ≤ℤ x
  pub high : x ≤ℤ pos (2 ^ 40)

-- by which numbers copies can be laid
pub record IsLay (lay : Lay) : Type 0 where
  pub added : lay.added ≤ 2 ^ 31
  pub low : pos 0 ≤ℤ lay.overlap
  pub high : lay.overlap ≤ℤ pos (2 ^ 34)
  pub shared : (pos lay.added *ℤ lay.overlap) ≤ℤ pos (2 ^ 34)
  pub start : IsNumber lay.start

-- a walk over copies that stops where an offset doesn't fit, and else gives where the pen is behind
-- them
abbrev pub WalksPen : Bool → ℤ → List ℤ → Option ℤ → Type 0
WalksPen right_to_left pen moves None = offsets_fit right_to_left pen moves ≡ false
WalksPen right_to_left pen moves (Some behind) =
    (offsets_fit right_to_left pen moves ≡ true)
    × (behind ≡ pen_behind right_to_left pen (total moves)) × IsNumber behind

-- how many copies a sequence adds, unless a number of it doesn't fit
abbrev pub sequence_added : StretchStart → Bool → Font → TileSequence → Glyphs → Option ℕ
sequence_added choice right_to_left font z tiles =
    if list_all fits_i32 (numbers_to_fit choice z)
    && offsets_fit right_to_left (start choice right_to_left z)
    (sequence_moves font (lay_of choice right_to_left z) tiles) then Some (copies_added z)
    else None

-- how many cells a stretched text has more, unless a number of it doesn't fit
abbrev pub CountsAdded : Laying → List Cell → Option ℕ → Type 0
CountsAdded how cs None = overflows how cs ≡ true
CountsAdded how cs (Some added) =
    (overflows how cs ≡ false) × (length (stretched how cs) ≡ length cs + added)

-- The text behind `end` is counted: no number of it overflows, and so many cells are added.
pub record IsCounted (how : Laying) (cs : List Cell) (end added : ℕ) : Type 0 where
  pub within : end ≤ length cs
  pub fits : overflows how cs ≡ overflows how (take end cs)
  pub longer : length (stretched how cs) + end
      ≡ (length (stretched how (take end cs)) + length cs) + added

-- the refusal that the numbers of a text in working order give
abbrev pub text_refusal : Laying → List Cell → Option ShaperError
text_refusal how cs = if overflows how cs then Some StretchOverflow else None
