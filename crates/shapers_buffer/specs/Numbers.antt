-- Levels, directions and flags by their numbers.
use Rattle.std.specs.Prelude.{ℕ, ◌==◌, bit_and, bit_or, List, [], ◌∷◌, if◌then◌else◌}
use Rattle.shapers_buffer.specs.Buffer.{no_dotted_circle, flags_concat, flags_tatweel}
use Rattle.shapers_buffer.specs.declared.buffer.level.BufferClusterLevel.{BufferClusterLevel}
use Rattle.shapers_buffer.specs.declared.buffer.level.BufferClusterLevel.TheVariants.{MonotoneGraphemes, MonotoneCharacters, Characters}
use Rattle.shapers_buffer.specs.declared.buffer.level.Direction.{Direction}
use Rattle.shapers_buffer.specs.declared.buffer.level.Direction.TheVariants.{Invalid, LeftToRight, RightToLeft, TopToBottom, BottomToTop}

-- the cluster levels, each at the place of its number
abbrev pub levels : List BufferClusterLevel
levels = MonotoneGraphemes ∷ MonotoneCharacters ∷ Characters ∷ []

-- the directions, and HarfBuzz's number of each
abbrev pub directions : List Direction
directions = Invalid ∷ LeftToRight ∷ RightToLeft ∷ TopToBottom ∷ BottomToTop ∷ []

abbrev pub direction_number : Direction → ℕ
direction_number Invalid = 0
direction_number LeftToRight = 4
direction_number RightToLeft = 5
direction_number TopToBottom = 6
direction_number BottomToTop = 7

-- a flag, where this bit is among these
abbrev pub flag_where : ℕ → ℕ → ℕ → ℕ
flag_where bits asked flag = if bit_and bits asked == asked then flag else 0

-- the flags of a buffer by HarfBuzz's bits of the same name: 10 for no dotted circle, 40 and 80
-- (hexadecimal) as here; nothing else is read of them
abbrev pub from_harfbuzz : ℕ → ℕ
from_harfbuzz bits =
    bit_or
    (bit_or (flag_where bits 0x10 no_dotted_circle) (flag_where bits 0x40 flags_concat))
    (flag_where bits 0x80 flags_tatweel)

abbrev pub to_harfbuzz : ℕ → ℕ
to_harfbuzz flags =
    bit_or
    (bit_or (flag_where flags no_dotted_circle 0x10) (flag_where flags flags_concat 0x40))
    (flag_where flags flags_tatweel 0x80)
