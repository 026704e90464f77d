-- The positions behind the last lookup: glyphs that are attached to others move with them.
use Rattle.std.specs.Prelude.{ℕ, zero, suc, ◌+◌, ◌-◌, ◌/◌, ◌%◌, ◌==◌, ◌&&◌, nat_le, nat_lt, Bool, true, false, List, [], ◌∷◌, length, slice_set, Option, None, Some, if◌then◌else◌}
use Rattle.shapers_buffer.specs.Buffer.{Buffer}
use Rattle.shapers_buffer.specs.Glyph.{default_position}
use Rattle.shapers_buffer.specs.declared.buffer.glyph.GlyphPosition.{GlyphPosition}
use Rattle.shapers_buffer.specs.declared.buffer.level.Direction.{Direction}
use Rattle.shapers_buffer.specs.declared.buffer.level.Direction.TheVariants.{BottomToTop, Invalid, LeftToRight, RightToLeft, TopToBottom}
use Rattle.opentype_gpos.specs.Moved.{Positions, detached, is_vertical, minus, plus, position_at}
use Rattle.opentype_gpos.specs.declared.finish.Attachment.{Attachment}

abbrev pub is_backward : Direction → Bool
is_backward RightToLeft = true
is_backward BottomToTop = true
is_backward LeftToRight = false
is_backward TopToBottom = false
is_backward Invalid = false

-- The place that a glyph is attached to, by what `var` keeps, if there is one and the text has it:
-- so many places behind it, or before.
unfoldable pub target_in : ℕ → ℕ → ℕ → Option ℕ
target_in var at len =
    let places = var % 65536 in
    if places == 0 then None
    else (if nat_lt places 32768
    then (if nat_lt places (len - at) then Some (at + places) else None)
    else (if nat_le (65536 - places) at then Some (at - (65536 - places)) else None))

-- an attachment of a glyph, and whether it is of a cursive line
abbrev pub link_to : ℕ → ℕ → Option ℕ → Option Attachment
link_to var at None = None
link_to var at (Some to) = Some (record { at = at; to = to; is_cursive = var / 65536 % 256 == 2 })

unfoldable pub link_at : Positions → ℕ → Option Attachment
link_at ps at = let var = (position_at ps at).var in link_to var at (target_in var at (length ps))

unfoldable pub let_go : Positions → ℕ → Positions
let_go ps at = slice_set ps at (detached (position_at ps at))

-- how far so many glyphs, from a place on, move the pen, from where it is
unfoldable pub pen_behind : GlyphPosition → GlyphPosition → GlyphPosition
pen_behind pen p = record pen {
  x_advance = plus pen.x_advance p.x_advance;
  y_advance = plus pen.y_advance p.y_advance;
}

unfoldable pub pen_along : ℕ → Positions → ℕ → GlyphPosition → GlyphPosition
pen_along zero ps at pen = pen
pen_along (suc n) ps at pen = pen_along n ps (at + 1) (pen_behind pen (position_at ps at))

-- in a cursive line a glyph takes over how far the other one is off the line
unfoldable pub joined_to : Bool → GlyphPosition → GlyphPosition → GlyphPosition
joined_to vertical to p =
    if vertical then record p { x_offset = plus p.x_offset to.x_offset }
    else record p { y_offset = plus p.y_offset to.y_offset }

-- A mark moves with the other glyph, and back to it: the pen has moved on between the two. In
-- backward text the mark is drawn before the glyphs between, which comes to the glyphs behind the
-- other one.
unfoldable pub hung_on : Bool → GlyphPosition → GlyphPosition → GlyphPosition → GlyphPosition
hung_on backward pen to p =
    if backward then record p {
      x_offset = plus (plus p.x_offset to.x_offset) pen.x_advance;
      y_offset = plus (plus p.y_offset to.y_offset) pen.y_advance;
    }
    else record p {
      x_offset = minus (plus p.x_offset to.x_offset) pen.x_advance;
      y_offset = minus (plus p.y_offset to.y_offset) pen.y_advance;
    }

-- how far the pen moves from a place to another
abbrev pub pen_from : ℕ → ℕ → Positions → GlyphPosition
pen_from start end ps = pen_along (end - start) ps start default_position

unfoldable pub pen_between : Bool → Positions → Attachment → GlyphPosition
pen_between backward ps link =
    if backward then pen_from (link.to + 1) (link.at + 1) ps else pen_from link.to link.at ps

abbrev pub placed_along : Direction → Attachment → Positions → GlyphPosition
placed_along direction link ps =
    let backward = is_backward direction in
    if link.is_cursive
    then joined_to (is_vertical direction) (position_at ps link.to) (position_at ps link.at)
    else hung_on backward (pen_between backward ps link) (position_at ps link.to) (position_at ps
    link.at)

unfoldable pub placed_on : Direction → Attachment → Positions → Positions
placed_on direction link ps = if nat_lt link.at (length ps) && nat_lt link.to (length ps)
    then slice_set ps link.at (placed_along direction link ps) else ps

-- A glyph and its chain of attachments: the glyph that it is attached to moves first, at most so
-- many in a row. Each is attached no longer then.
abbrev pub on_link : Direction → Positions → (ℕ → Positions) → Option Attachment → Positions
on_link direction ps attached_moved None = ps
on_link direction ps attached_moved (Some link) = placed_on direction link (attached_moved link.to)

unfoldable pub chain_followed : ℕ → Direction → Positions → ℕ → Positions
chain_followed zero direction ps at = let_go ps at
chain_followed (suc n) direction ps at =
    on_link direction (let_go ps at) (λ to. chain_followed n direction (let_go ps at) to) (link_at
    ps at)

-- the glyphs of these attachments, the last one first
unfoldable pub attached_moved : Direction → List Attachment → Positions → Positions
attached_moved direction [] ps = ps
attached_moved direction (link ∷ links) ps =
    placed_on direction link (attached_moved direction links ps)

-- all glyphs in the order in which they are drawn
abbrev pub drawn_place : Bool → ℕ → ℕ → ℕ
drawn_place backward len i = if backward then len - 1 - i else i

unfoldable pub finished_from : ℕ → Direction → Positions → ℕ → Positions
finished_from zero direction ps i = ps
finished_from (suc n) direction ps i = finished_from n direction
    (chain_followed 64 direction ps (drawn_place (is_backward direction) (length ps) i)) (i + 1)

unfoldable pub finished : Buffer → Buffer
finished b =
    record b { positions = finished_from (length b.positions) b.direction b.positions 0 }
