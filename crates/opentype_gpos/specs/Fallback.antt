-- Marks of a text in a font without GPOS (HarfBuzz, hb-ot-shape-fallback.cc,
-- `_hb_ot_shape_fallback_mark_position`).
use Rattle.std.specs.Prelude.{ℕ, zero, suc, ◌+◌, ◌-◌, ◌/◌, ◌%◌, ◌==◌, ◌&&◌, ◌||◌, not, nat_le, nat_lt, ℤ, pos, Bool, true, drop, length, slice_set, Option, None, Some, if◌then◌else◌}
use Rattle.std.specs.List.{prefix_len}
use Rattle.shapers_buffer.specs.Buffer.{Buffer}
use Rattle.shapers_buffer.specs.Category.{is_mark}
use Rattle.shapers_buffer.specs.Glyphs.{Glyph, Glyphs}
use Rattle.shapers_buffer.specs.Properties.{component, general_category, has_bit, is_hidden, is_ignorable, is_substituted, modified_combining_class}
use Rattle.shapers_buffer.specs.declared.buffer.glyph.GlyphPosition.{GlyphPosition}
use Rattle.shapers_buffer.specs.declared.buffer.level.Direction.{Direction}
use Rattle.opentype_layout.specs.Text.{glyph_at}
use Rattle.opentype_gpos.specs.Finished.{is_backward}
use Rattle.opentype_gpos.specs.MarkBoxes.{across_place, component_box, upright_place}
use Rattle.opentype_gpos.specs.Moved.{Positions, Progress, flagged_up_to, minus, plus, position_at}
use Rattle.opentype_gpos.specs.Nearby.{ligature_id}
use Rattle.opentype_gpos.specs.Along.{applied_along}
use Rattle.opentype_gpos.specs.declared.fallback.Around.{Around}
use Rattle.opentype_gpos.specs.declared.fallback.PenWay.{PenWay}
use Rattle.opentype_gpos.specs.declared.fallback.MarkSettings.{MarkSettings}
use Rattle.opentype_gpos.specs.declared.mark_boxes.GlyphBox.{GlyphBox}

-- What marks are placed by: the boxes of glyphs and their advances, the gap between a mark and its
-- base, the direction of the line, and whether the script goes from right to left.
pub record MarkFont : Type 0 where
  pub box : ℕ → Option GlyphBox
  pub advance : ℕ → ℤ
  pub gap : ℕ
  pub direction : Direction
  pub from_right : Bool

abbrev pub mark_font : (ℕ → Option GlyphBox) → (ℕ → ℤ) → MarkSettings → MarkFont
mark_font box advance settings = record {
  box = box;
  advance = advance;
  gap = settings.gap;
  direction = settings.direction;
  from_right = settings.from_right;
}

-- ---- one mark

-- how many components a glyph has
abbrev pub components_of : Glyph → ℕ
components_of g = if has_bit 4 g.glyph_props.0 && (g.lig_props.0 / 16 % 2 == 1)
    then g.lig_props.0 % 16 else 1

-- the component of a base that a mark is of, from 1 on; the last one where it is of another glyph
abbrev pub component_under : Glyph → Glyph → ℕ
component_under base mark =
    if (ligature_id base == 0) || not (ligature_id base == ligature_id mark)
    || nat_lt (components_of base) (component mark.lig_props) then components_of base
    else component mark.lig_props

unfoldable pub at_component : Bool → Glyph → GlyphBox → Glyph → Around → Around
at_component from_right base box mark a =
    let it = component_under base mark in
    if nat_le (components_of base) 1 || (it == a.component) then a
    else record a {
      component = it;
      class = 255;
      table_at = component_box from_right (components_of base) it box;
    }

unfoldable pub at_class : ℕ → Around → Around
at_class class a = if class == a.class then a else record a { class = class; rest = a.table_at }

-- without an advance, and as far back as the pen has come
unfoldable pub brought_back : Around → GlyphPosition → GlyphPosition
brought_back a p = record p {
  x_advance = pos 0;
  y_advance = pos 0;
  x_offset = plus p.x_offset a.pen.x;
  y_offset = plus p.y_offset a.pen.y;
}

-- a position with these offsets
abbrev pub with_offsets : ℤ → ℤ → GlyphPosition → GlyphPosition
with_offsets x y p = record p { x_offset = x; y_offset = y }

-- a mark whose glyph has a box
unfoldable pub upon_box : Direction → ℕ → ℕ → Around → GlyphPosition → GlyphBox → GlyphPosition ×
    Around
upon_box direction gap class a p box =
    let height = upright_place gap class a.rest box in (
      brought_back a (with_offsets (across_place direction class a.rest box) height.y p),
      record a {
        rest =
            height.rest;
      },
    )

-- and one whose glyph has none
unfoldable pub mark_upon : MarkFont → ℕ → Around → GlyphPosition → Option GlyphBox →
    GlyphPosition × Around
mark_upon f class a p None = (brought_back a p, a)
mark_upon f class a p (Some box) = upon_box f.direction f.gap class a p box

-- the pen behind a glyph of class 0
unfoldable pub pen_past : Direction → GlyphPosition → PenWay → PenWay
pen_past direction p pen =
    if is_backward direction
    then record { x = plus pen.x p.x_advance; y = plus pen.y p.y_advance }
    else record { x = minus pen.x p.x_advance; y = minus pen.y p.y_advance }

unfoldable pub glyph_around : MarkFont → Glyph → GlyphBox → Glyph → GlyphPosition → Around →
    GlyphPosition × Around
glyph_around f base box g p a =
    let class = modified_combining_class g.unicode_props in
    if class == 0 then (p, record a { pen = pen_past f.direction p a.pen })
    else mark_upon f class (at_class class (at_component f.from_right base box g a)) p
    (f.box g.glyph_id)

-- ---- the marks behind a base

-- so many glyphs from a place on
unfoldable pub marks_around : ℕ → MarkFont → Glyphs → Glyph → GlyphBox → ℕ → Around → Positions →
    Positions
marks_around zero f gs base box i a ps = ps
marks_around (suc n) f gs base box i a ps =
    let it = glyph_around f base box (glyph_at gs i) (position_at ps i) a in
    marks_around n f gs base box (i + 1) it.1 (slice_set ps i it.0)

-- Where the base has no box its nonspacing marks (category 12) only lose their advances. In forward
-- text they hang over the glyph before them.
unfoldable pub without_box : Direction → Glyph → GlyphPosition → GlyphPosition
without_box direction g p =
    if not (g.unicode_props.0 % 32 == 12) then p
    else (if is_backward direction then record p { x_advance = pos 0; y_advance = pos 0 }
    else record p {
      x_advance = pos 0;
      y_advance = pos 0;
      x_offset = minus p.x_offset p.x_advance;
      y_offset = minus p.y_offset p.y_advance;
    })

unfoldable pub marks_without_box : ℕ → Direction → Glyphs → ℕ → Positions → Positions
marks_without_box zero direction gs i ps = ps
marks_without_box (suc n) direction gs i ps = marks_without_box n direction gs (i + 1)
    (slice_set ps i (without_box direction (glyph_at gs i) (position_at ps i)))

-- A base's box for marks: as wide as it moves the pen, from its origin on.
abbrev pub box_for_marks : GlyphBox → ℤ → GlyphPosition → GlyphBox
box_for_marks box advance p = record {
  x_bearing = pos 0;
  y_bearing = plus box.y_bearing p.y_offset;
  width = advance;
  height = box.height;
}

abbrev pub first_pen : Direction → GlyphPosition → PenWay
first_pen direction p = if is_backward direction then record { x = pos 0; y = pos 0 }
    else record { x = minus (pos 0) p.x_advance; y = minus (pos 0) p.y_advance }

abbrev pub first_around : Direction → GlyphBox → GlyphPosition → Around
first_around direction box p = record {
  pen = first_pen direction p;
  component = 0;
  class = 255;
  table_at = box;
  rest = box;
}

-- the glyphs from behind a base up to an end
unfoldable pub placed_around : MarkFont → Glyphs → ℕ → ℕ → Positions → Option GlyphBox → Positions
placed_around f gs base end ps None =
    marks_without_box (end - (base + 1)) f.direction gs (base + 1) ps
placed_around f gs base end ps (Some it) =
    let box = box_for_marks it (f.advance (glyph_at gs base).glyph_id) (position_at ps base) in
    marks_around (end - (base + 1)) f gs (glyph_at gs base) box (base + 1)
    (first_around f.direction box (position_at ps base)) ps

-- ---- along a text

abbrev pub marks_character : Glyph → Bool
marks_character g = is_mark (general_category g.unicode_props)

-- what stays with the glyph before: marks, hidden glyphs, and those that need not be drawn
abbrev pub stays_with_base : Glyph → Bool
stays_with_base g =
    marks_character g || is_hidden g.unicode_props
    || (is_ignorable g.unicode_props && not (is_substituted g.glyph_props))

-- The glyphs from a place on that stay together: the first one that is no mark is the base. There
-- is no break behind it.
unfoldable pub marks_stepped : MarkFont → Glyphs → Positions → ℕ → Progress
marks_stepped f gs ps at =
    let end = at + 1 + prefix_len stays_with_base (drop (at + 1) gs) in
    let base = at + prefix_len marks_character (drop at gs) in
    if nat_lt base end then record {
      glyphs = flagged_up_to true base (end - 1) gs;
      positions = placed_around f gs base end ps (f.box (glyph_at gs base).glyph_id);
      next = end;
    }
    else record { glyphs = gs; positions = ps; next = end }

unfoldable pub marks_placed : MarkFont → Buffer → Buffer
marks_placed f b =
    let end = applied_along (length b.glyphs) (marks_stepped f) b.glyphs b.positions 0 in
    record b { glyphs = end.glyphs; positions = end.positions }

-- ---- classes of marks

-- Marks of Thai and Lao without a class of their own.
abbrev pub class_of_character : ℕ → ℕ
class_of_character c =
    if (c == 0x0E31) || (nat_le 0x0E34 c && nat_le c 0x0E37) || (c == 0x0E47)
    || (nat_le 0x0E4C c && nat_le c 0x0E4E) then 232
    else (if (c == 0x0EB1) || (nat_le 0x0EB4 c && nat_le c 0x0EB7) || (c == 0x0EBB)
    || (c == 0x0ECC) || (c == 0x0ECD) then 230
    else (if c == 0x0EBC then 220 else 0))

-- The classes below 200 are those of marks of one script, by HarfBuzz's numbers: points of Hebrew
-- (10 to 26), vowels of Arabic and Syriac (27 to 36), marks of Thai (3 and 107), Lao (118 and 122)
-- and Tibetan (129 to 132).
abbrev pub is_class_below : ℕ → Bool
is_class_below c =
    (nat_le 15 c && nat_le c 25) || (c == 30) || (c == 33)
    || (c == 118) || (c == 129) || (c == 131)

abbrev pub is_class_above : ℕ → Bool
is_class_above c =
    (nat_le 26 c && nat_le c 29) || (c == 31) || (c == 32) || (nat_le 34 c && nat_le c 36)
    || (c == 122) || (c == 132)

abbrev pub class_of_script : ℕ → ℕ
class_of_script c =
    if is_class_below c then 220
    else (if is_class_above c then 230
    else (if c == 13 then 214
    else (if (c == 10) || (c == 107) then 232
    else (if (c == 11) || (c == 14) then 228
    else (if c == 3 then 222 else c)))))

-- where a nonspacing mark comes, by its character and class (HarfBuzz,
-- `recategorize_combining_class`); the sign of a missing vowel of Thai is below on the right
unfoldable pub mark_class : ℕ → ℕ → ℕ
mark_class character class =
    if nat_le 200 class then class
    else (if class == 0 then class_of_character character
    else (if character == 0x0E3A then 222 else class_of_script class))
