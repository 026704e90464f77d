-- Cursive lines: what a move of type 3 makes of positions.
use Rattle.std.specs.Prelude.{ℕ, zero, suc, ◌+◌, ◌-◌, ◌/◌, ◌%◌, ◌==◌, ◌&&◌, ℤ, pos, nat_le, nat_lt, Bool, true, false, length, slice_set, Option, None, Some, if◌then◌else◌}
use Rattle.shapers_buffer.specs.Glyphs.{Glyphs}
use Rattle.shapers_buffer.specs.declared.buffer.glyph.GlyphPosition.{GlyphPosition}
use Rattle.shapers_buffer.specs.declared.buffer.level.Direction.{Direction}
use Rattle.opentype_gpos.specs.Finished.{is_backward, let_go, target_in}
use Rattle.opentype_gpos.specs.Moved.{Positions, Progress, detached, flagged_up_to, is_vertical, stored_attachment, minus, plus, position_at}
use Rattle.opentype_gpos.specs.declared.anchors.Point.{Point}
use Rattle.opentype_gpos.specs.declared.moves.CursiveMove.{CursiveMove}

-- ---- along the line: the pen is at a point behind a glyph, or before it
unfoldable pub ending_at : Bool → Point → GlyphPosition → GlyphPosition
ending_at vertical point p =
    if vertical then record p { y_advance = plus point.y p.y_offset }
    else record p { x_advance = plus point.x p.x_offset }

unfoldable pub beginning_at : Bool → Point → GlyphPosition → GlyphPosition
beginning_at vertical point p =
    if vertical then record p {
      y_advance = minus p.y_advance (plus point.y p.y_offset);
      y_offset = minus p.y_offset (plus point.y p.y_offset);
    }
    else record p {
      x_advance = minus p.x_advance (plus point.x p.x_offset);
      x_offset = minus p.x_offset (plus point.x p.x_offset);
    }

unfoldable pub ended : Bool → Point → ℕ → Positions → Positions
ended vertical point at ps = slice_set ps at (ending_at vertical point (position_at ps at))

unfoldable pub begun : Bool → Point → ℕ → Positions → Positions
begun vertical point at ps = slice_set ps at (beginning_at vertical point (position_at ps at))

unfoldable pub aligned : Direction → CursiveMove → ℕ → Positions → Positions
aligned direction it at ps =
    let v = is_vertical direction in
    if is_backward direction then ended v it.entry at (begun v it.exit it.before ps)
    else begun v it.entry at (ended v it.exit it.before ps)

-- ---- across it: a glyph is attached to the other one, and so far off that
unfoldable pub with_across : Bool → ℤ → GlyphPosition → GlyphPosition
with_across vertical off p =
    if vertical then record p { x_offset = off } else record p { y_offset = off }

unfoldable pub off_line : Bool → GlyphPosition → ℤ
off_line vertical p = if vertical then p.x_offset else p.y_offset

unfoldable pub between : Bool → Point → Point → ℤ
between vertical a b = if vertical then minus a.x b.x else minus a.y b.y

-- what is kept of an attachment from one place to another; nothing where 16 bits don't tell it
unfoldable pub line_var : ℕ → ℕ → ℕ
line_var at to =
    if nat_lt at to then (if nat_lt (to - at) 32768 then stored_attachment (to - at) 2 else 0)
    else (if nat_lt to at && nat_le (at - to) 32768
    then stored_attachment (65536 - (at - to)) 2 else 0)

-- the place that a glyph of a line is attached to, if that isn't this one
abbrev pub other_than : ℕ → Option ℕ → Option ℕ
other_than parent None = None
other_than parent (Some to) = if to == parent then None else Some to

unfoldable pub next_in_line : ℕ → ℕ → ℕ → ℕ → Option ℕ
next_in_line var at parent len =
    if var / 65536 % 256 == 2 then other_than parent (target_in var at len) else None

-- Where a glyph was attached to another already, the line from it on is reversed: the other one is
-- attached to it, and so on, up to the new one; at most 64 glyphs (HarfBuzz,
-- `reverse_cursive_minor_offset`).
unfoldable pub reversed_on : Bool → GlyphPosition → ℕ → ℕ → GlyphPosition → GlyphPosition
reversed_on vertical old at to p =
    record (with_across vertical (minus (pos 0) (off_line vertical old)) p) { var = line_var to at }

abbrev pub reverse_to : Positions → (ℕ → Positions) → Option ℕ → Positions
reverse_to ps rest None = ps
reverse_to ps rest (Some to) = rest to

unfoldable pub reversed : ℕ → Bool → ℕ → Positions → ℕ → GlyphPosition → Positions
reversed zero vertical parent ps at old = ps
reversed (suc n) vertical parent ps at old = reverse_to ps (λ to.
    reversed n vertical parent
    (slice_set ps to (reversed_on vertical old at to (position_at ps to)))
    to (position_at ps to)) (next_in_line old.var at parent (length ps))

-- where the other one was attached to the glyph, it is no longer: no line is a ring
abbrev pub is_at : ℕ → Option ℕ → Bool
is_at place None = false
is_at place (Some to) = to == place

unfoldable pub separated : Bool → ℕ → ℕ → Positions → Positions
separated vertical child parent ps =
    if is_at child (target_in (position_at ps parent).var parent (length ps))
    then slice_set ps parent (with_across vertical (pos 0) (detached (position_at ps parent))) else
    ps

unfoldable pub hung : Bool → ℕ → ℕ → ℤ → Positions → Positions
hung vertical child parent off ps = if line_var child parent == 0 then let_go ps child
    else separated vertical child parent (slice_set ps child
    (record (with_across vertical off (position_at ps child)) { var = line_var child parent }))

unfoldable pub cursive_linked : Bool → ℕ → ℕ → ℤ → Positions → Positions
cursive_linked vertical child parent off ps =
    hung vertical child parent off (reversed 64 vertical parent ps child (position_at ps child))

unfoldable pub cursive_joined : Direction → CursiveMove → ℕ → Positions → Positions
cursive_joined direction it at ps =
    let v = is_vertical direction in
    if it.from_end then cursive_linked v it.before at (between v it.entry it.exit) (aligned
    direction it at ps)
    else cursive_linked v at it.before (between v it.exit it.entry) (aligned direction it at ps)

-- a glyph is joined to the one before it, up to which no break is safe
unfoldable pub cursive_moved : Direction → CursiveMove → ℕ → Glyphs → Positions → Progress
cursive_moved direction it at gs ps = record {
  glyphs = flagged_up_to true it.before at gs;
  positions = cursive_joined direction it at ps;
  next = at + 1;
}
