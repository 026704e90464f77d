-- Where a mark comes in a font without GPOS, by its class and by boxes of glyphs (HarfBuzz,
-- hb-ot-shape-fallback.cc, `position_mark`). A class is one of those of `ccc`, from 200 on.
use Rattle.std.specs.Prelude.{ℕ, ◌==◌, ◌||◌, not, ℤ, pos, ◌*ℤ◌, int_div, int_lt, Bool, if◌then◌else◌}
use Rattle.std.specs.Int.{saturate_to_bits}
use Rattle.shapers_buffer.specs.declared.buffer.level.Direction.{Direction}
use Rattle.shapers_buffer.specs.declared.buffer.level.Direction.TheVariants.{BottomToTop, Invalid, LeftToRight, RightToLeft, TopToBottom}
use Rattle.opentype_gpos.specs.Moved.{minus, plus}
use Rattle.opentype_gpos.specs.declared.mark_boxes.GlyphBox.{GlyphBox}
use Rattle.opentype_gpos.specs.declared.mark_boxes.Height.{Height}

-- ---- across
abbrev pub is_double : ℕ → Bool
is_double class = class == 233 || class == 234

abbrev pub is_at_left : ℕ → Bool
is_at_left class = class == 200 || class == 218 || class == 228

abbrev pub is_at_right : ℕ → Bool
is_at_right class = class == 216 || class == 222 || class == 232

abbrev pub at_middle : GlyphBox → GlyphBox → ℤ
at_middle base mark =
    minus (plus base.x_bearing (int_div (minus base.width mark.width) (pos 2))) mark.x_bearing

-- with its middle upon an edge
abbrev pub upon_edge : ℤ → GlyphBox → ℤ
upon_edge edge mark = minus (minus edge (int_div mark.width (pos 2))) mark.x_bearing

-- a mark of two letters comes between them
abbrev pub between_letters : Direction → GlyphBox → GlyphBox → ℤ
between_letters LeftToRight base mark = upon_edge (plus base.x_bearing base.width) mark
between_letters RightToLeft base mark = upon_edge base.x_bearing mark
between_letters TopToBottom base mark = at_middle base mark
between_letters BottomToTop base mark = at_middle base mark
between_letters Invalid base mark = at_middle base mark

unfoldable pub across_place : Direction → ℕ → GlyphBox → GlyphBox → ℤ
across_place direction class base mark =
    if is_double class then between_letters direction base mark
    else (if is_at_left class then minus base.x_bearing mark.x_bearing
    else (if is_at_right class
    then minus (minus (plus base.x_bearing base.width) mark.width) mark.x_bearing
    else at_middle base mark))

-- ---- upright

-- how far up, and the box that the next mark of that class finds

abbrev pub is_below : ℕ → Bool
is_below class = class == 200 || class == 202

abbrev pub is_below_apart : ℕ → Bool
is_below_apart class = class == 218 || class == 220 || class == 222 || class == 233

abbrev pub is_above : ℕ → Bool
is_above class = class == 214 || class == 216

abbrev pub is_above_apart : ℕ → Bool
is_above_apart class = class == 228 || class == 230 || class == 232 || class == 234

-- whether a move is upwards, as the gap is
abbrev pub is_as_gap : ℕ → ℤ → Bool
is_as_gap gap y = if gap == 0 then not (int_lt (pos 0) y) else int_lt (pos 0) y

-- the box with a mark below it, that goes no farther up than its bottom
abbrev pub with_below : ℤ → GlyphBox → GlyphBox → GlyphBox
with_below y base mark =
    record base { height = plus (minus base.height y) mark.height }

-- A mark below never goes up.
unfoldable pub placed_below : ℕ → GlyphBox → GlyphBox → Height
placed_below gap base mark =
    let y = minus (plus base.y_bearing base.height) mark.y_bearing in
    if is_as_gap gap y then record { y = pos 0; rest = with_below y base mark }
    else record { y = y; rest = record base { height = plus base.height mark.height } }

-- One above goes half as far down as it would.
abbrev pub down_half : ℕ → ℤ → ℤ
down_half gap y = if is_as_gap gap y then pos 0 else int_div (minus (pos 0) y) (pos 2)

abbrev pub with_above : ℤ → GlyphBox → GlyphBox → GlyphBox
with_above half base mark = record base {
  y_bearing = minus (plus base.y_bearing half) mark.height;
  height = plus (minus base.height half) mark.height;
}

unfoldable pub placed_above : ℕ → GlyphBox → GlyphBox → Height
placed_above gap base mark =
    let y = minus base.y_bearing (plus mark.y_bearing mark.height) in
    let half = down_half gap y in
    record { y = plus y half; rest = with_above half base mark }

-- a box with a gap below it, or above
abbrev pub with_gap_below : ℕ → GlyphBox → GlyphBox
with_gap_below gap base = record base { height = minus base.height (pos gap) }

abbrev pub with_gap_above : ℕ → GlyphBox → GlyphBox
with_gap_above gap base = record base {
  y_bearing = plus base.y_bearing (pos gap);
  height = minus base.height (pos gap);
}

unfoldable pub upright_place : ℕ → ℕ → GlyphBox → GlyphBox → Height
upright_place gap class base mark =
    if is_below_apart class then placed_below gap (with_gap_below gap base) mark
    else (if is_below class then placed_below gap base mark
    else (if is_above_apart class then placed_above gap (with_gap_above gap base) mark
    else (if is_above class then placed_above gap base mark
    else record { y = pos 0; rest = base })))

-- a product that doesn't fit 32 bits stops at its bound
abbrev pub times : ℤ → ℤ → ℤ
times a b = saturate_to_bits 31 (a *ℤ b)

-- ---- a ligature's box is shared out among its components, from 1 on
abbrev pub steps_before : Bool → ℕ → ℕ → ℤ
steps_before from_right count component =
    if from_right then minus (pos count) (pos component) else minus (pos component) (pos 1)

-- where a component's part begins
abbrev pub component_start : ℤ → ℕ → GlyphBox → ℤ
component_start steps count box = plus box.x_bearing (int_div (times steps box.width) (pos count))

unfoldable pub component_box : Bool → ℕ → ℕ → GlyphBox → GlyphBox
component_box from_right count component box = record box {
  x_bearing = component_start (steps_before from_right count component) count box;
  width = int_div box.width (pos count);
}
