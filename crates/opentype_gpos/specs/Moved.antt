-- What a move makes of a text.
use Rattle.std.specs.Prelude.{ℕ, ◌+◌, ◌-◌, ◌*◌, ◌/◌, ◌==◌, ◌&&◌, ◌||◌, not, ◌+ℤ◌, ◌-ℤ◌, unsigned_abs, ℤ, Bool, true, false, nat_le, nat_lt, List, length, slice_index_or, slice_set, if◌then◌else◌}
use Rattle.std.specs.Int.{saturate_to_bits}
use Rattle.shapers_buffer.specs.Glyph.{default_position}
use Rattle.shapers_buffer.specs.GlyphFlags.{unsafe_inside}
use Rattle.shapers_buffer.specs.Glyphs.{Glyphs}
use Rattle.shapers_buffer.specs.declared.buffer.glyph.GlyphPosition.{GlyphPosition}
use Rattle.shapers_buffer.specs.declared.buffer.level.Direction.{Direction}
use Rattle.shapers_buffer.specs.declared.buffer.level.Direction.TheVariants.{BottomToTop, Invalid, LeftToRight, RightToLeft, TopToBottom}
use Rattle.opentype_gpos.specs.declared.moves.MarkMove.{MarkMove}
use Rattle.opentype_gpos.specs.declared.moves.PairMove.{PairMove}
use Rattle.opentype_gpos.specs.declared.values.Value.{Value}

abbrev pub Positions : Type 0
Positions = List GlyphPosition

-- the position of a glyph; behind the end a zero one
abbrev pub position_at : Positions → ℕ → GlyphPosition
position_at ps at = slice_index_or ps at default_position

-- a text afterwards, and the place that comes next
pub record Progress : Type 0 where
  pub glyphs : Glyphs
  pub positions : Positions
  pub next : ℕ

-- whether a line goes from top to bottom, or upwards
abbrev pub is_vertical : Direction → Bool
is_vertical TopToBottom = true
is_vertical BottomToTop = true
is_vertical LeftToRight = false
is_vertical RightToLeft = false
is_vertical Invalid = false

-- sums and differences that don't fit 32 bits stop at their bound
abbrev pub plus : ℤ → ℤ → ℤ
plus a b = saturate_to_bits 31 (a +ℤ b)

abbrev pub minus : ℤ → ℤ → ℤ
minus a b = saturate_to_bits 31 (a -ℤ b)

-- a position with a value: of the advances the one along the line counts, which downwards is below
-- 0
unfoldable pub with_value : Bool → Value → GlyphPosition → GlyphPosition
with_value vertical value p =
    if vertical then record p {
      y_advance = minus p.y_advance value.y_advance;
      x_offset = plus p.x_offset value.x_placement;
      y_offset = plus p.y_offset value.y_placement;
    }
    else record p {
      x_advance = plus p.x_advance value.x_advance;
      x_offset = plus p.x_offset value.x_placement;
      y_offset = plus p.y_offset value.y_placement;
    }

-- whether a value is other than nothing there
abbrev pub is_not_zero : ℤ → Bool
is_not_zero z = not (unsigned_abs z == 0)

unfoldable pub does_move : Bool → Value → Bool
does_move vertical value =
    is_not_zero value.x_placement || is_not_zero value.y_placement
    || is_not_zero (if vertical then value.y_advance else value.x_advance)

unfoldable pub value_added : Direction → Value → ℕ → Positions → Positions
value_added direction value at ps = if nat_lt at (length ps)
    then slice_set ps at (with_value (is_vertical direction) value (position_at ps at)) else ps

-- No break inside the stretch from a place to another one, which may be the one behind the text;
-- as in HarfBuzz, none of more than 255 glyphs is flagged.
abbrev pub end_behind : ℕ → Glyphs → ℕ
end_behind last gs = if nat_lt last (length gs) then last + 1 else length gs

unfoldable pub flagged_up_to : Bool → ℕ → ℕ → Glyphs → Glyphs
flagged_up_to is_on start last gs =
    if is_on && nat_le start (end_behind last gs) && nat_le (end_behind last gs - start) 255
    then unsafe_inside start (end_behind last gs) gs else gs

-- Values for a pair. A second glyph that has values of its own begins no pair, and then a break
-- before the next glyph changes something, too.
unfoldable pub pair_moved : Direction → PairMove → ℕ → Glyphs → Positions → Progress
pair_moved direction pair at gs ps =
    let moves = does_move (is_vertical direction) in
    let both = value_added direction pair.second_value pair.second
    (value_added direction pair.first_value at ps) in
    if pair.has_second then record {
      glyphs = flagged_up_to true at (pair.second + 1) gs;
      positions = both;
      next = pair.second + 1;
    }
    else record {
      glyphs = flagged_up_to (moves pair.first_value || moves pair.second_value) at pair.second gs;
      positions = both;
      next = pair.second;
    }

-- ATTACHMENTS, as HarfBuzz keeps them in `var`: in its low 16 bits how many places behind a glyph
-- the one stands that it is attached to, below 0 for one before it, and above them in 8 bits how:
-- 1 as a mark, 2 in a cursive line. 0 places is no attachment.
abbrev pub stored_attachment : ℕ → ℕ → ℕ
stored_attachment places kind = places + 65536 * kind

abbrev pub detached : GlyphPosition → GlyphPosition
detached p = record p { var = p.var / 65536 * 65536 }

-- A mark at a place with another position, attached to a glyph before it. One farther away than 16
-- bits tell isn't attached, and stays where it is.
unfoldable pub with_mark_move : MarkMove → ℕ → GlyphPosition → GlyphPosition
with_mark_move mark at p =
    if nat_lt mark.to at && nat_le (at - mark.to) 32768
    then record p {
      x_offset = mark.x;
      y_offset = mark.y;
      var = stored_attachment (65536 - (at - mark.to)) 1;
    }
    else detached p

unfoldable pub mark_moved : MarkMove → ℕ → Glyphs → Positions → Progress
mark_moved mark at gs ps = record {
  glyphs = flagged_up_to true mark.to at gs;
  positions = slice_set ps at (with_mark_move mark at (position_at ps at));
  next = at + 1;
}
