-- Pairs of glyphs by the table `kern` of version 0 (OpenType, `kern`), as HarfBuzz applies it
-- (hb-ot-kern-table.hh, `hb_kern_machine_t`).
use Rattle.std.specs.Prelude.{ℕ, zero, suc, ◌+◌, ◌-◌, ◌*◌, ◌/◌, ◌%◌, ◌==◌, not, bit_and, nat_lt, true, ℤ, pos, ◌-ℤ◌, Bool, List, [], map, length, reverse, slice_index, slice_set, Option, None, Some, if◌then◌else◌}
use Rattle.shapers_buffer.specs.Buffer.{Buffer, asks, flags_concat}
use Rattle.shapers_buffer.specs.GlyphFlags.{unsafe_to_concat_in}
use Rattle.shapers_buffer.specs.Glyphs.{Glyphs}
use Rattle.shapers_buffer.specs.declared.buffer.glyph.GlyphPosition.{GlyphPosition}
use Rattle.shapers_buffer.specs.declared.buffer.level.Direction.{Direction}
use Rattle.opentype_face.specs.Bytes.{table_at, u16_in, u32_in}
use Rattle.opentype_face.specs.Ranges.{bisect}
use Rattle.opentype_layout.specs.Text.{glyph_at}
use Rattle.opentype_layout.specs.declared.sight.Sight.{Sight}
use Rattle.opentype_gpos.specs.Finished.{is_backward, let_go}
use Rattle.opentype_gpos.specs.Joined.{with_across}
use Rattle.opentype_gpos.specs.Moved.{Positions, Progress, flagged_up_to, is_vertical, stored_attachment, plus, position_at}
use Rattle.opentype_gpos.specs.Moves.{number_at}
use Rattle.opentype_gpos.specs.Nearby.{next_any}
use Rattle.opentype_gpos.specs.Along.{passed, applied_along}

-- ---- what a subtable says of a pair: two bytes, and 0 is nothing

-- Format 0: a count at byte 6, and from byte 14 on records of two glyphs and a value, in the order
-- of the glyphs.
abbrev pub listed_value : List ℕ → Option ℕ → ℕ
listed_value bytes None = 0
listed_value bytes (Some i) = u16_in bytes (18 + i * 6)

unfoldable pub value_of_pair : List ℕ → ℕ → ℕ → ℕ
value_of_pair bytes left right =
    let pair : ℕ → ℕ = λ i. u32_in bytes (14 + i * 6) in
    listed_value bytes (bisect (u16_in bytes 6) pair pair (65536 * left + right) 0 (u16_in bytes
    6))

-- Format 2: two tables of classes, at the offsets of bytes 8 and 10. Each has a first glyph, a
-- count, and a class for each of so many glyphs. The sum of both classes says where the value
-- stands, from the array on, whose offset is at byte 12. Class 1 is none (HarfBuzz,
-- `CLASS_OUT_OF_BOUNDS`).
unfoldable pub kern_class : List ℕ → ℕ → Option ℕ
kern_class classes glyph =
    let class = u16_in classes (4 + (glyph - u16_in classes 0) * 2) in
    if nat_lt glyph (u16_in classes 0) then None
    else (if not (nat_lt (glyph - u16_in classes 0) (u16_in classes 2)) then None
    else (if class == 1 then None else Some class))

abbrev pub value_of_classes : List ℕ → Option ℕ → Option ℕ → ℕ
value_of_classes bytes None right = 0
value_of_classes bytes (Some l) None = 0
value_of_classes bytes (Some l) (Some r) =
    let array = u16_in bytes 12 in
    if nat_lt (l + r) array then 0 else u16_in bytes (array + (l + r - array) / 2 * 2)

-- the format is byte 4; others than 0 and 2 say nothing here
unfoldable pub kern_value : List ℕ → ℕ → ℕ → ℕ
kern_value bytes left right =
    if slice_index bytes 4 == 0 then value_of_pair bytes left right
    else (if slice_index bytes 4 == 2
    then value_of_classes bytes (kern_class (table_at bytes (u16_in bytes 8)) left)
    (kern_class (table_at bytes (u16_in bytes 10)) right) else 0)

-- ---- what it makes of two positions

-- Of a value the first glyph's advance gets a half, rounded down, and the second one's the rest; by
-- that the second one moves, too.
abbrev pub kern_whole : ℕ → ℤ
kern_whole n = if nat_lt n 32768 then pos n else pos n -ℤ pos 65536

abbrev pub kern_half : ℕ → ℤ
kern_half n = if nat_lt n 32768 then pos (n / 2) else pos (n / 2) -ℤ pos 32768

abbrev pub kern_rest : ℕ → ℤ
kern_rest n = kern_whole n -ℤ kern_half n

unfoldable pub with_half : Bool → ℕ → GlyphPosition → GlyphPosition
with_half vertical n p =
    if vertical then record p { y_advance = plus p.y_advance (kern_half n) }
    else record p { x_advance = plus p.x_advance (kern_half n) }

unfoldable pub with_rest : Bool → ℕ → GlyphPosition → GlyphPosition
with_rest vertical n p =
    if vertical then record p {
      y_advance = plus p.y_advance (kern_rest n);
      y_offset = plus p.y_offset (kern_rest n);
    }
    else record p {
      x_advance = plus p.x_advance (kern_rest n);
      x_offset = plus p.x_offset (kern_rest n);
    }

-- Across the line the value is how far off it the second glyph is.
unfoldable pub pair_kerned : Bool → Bool → ℕ → ℕ → ℕ → Positions → Positions
pair_kerned vertical across n i j ps =
    if across then slice_set ps j (with_across vertical (kern_whole n) (position_at ps j))
    else (let qs = slice_set ps i (with_half vertical n (position_at ps i)) in
    slice_set qs j (with_rest vertical n (position_at qs j)))

-- ---- along a text

-- Marks are passed over, and a pair is of glyphs that have the feature.
abbrev pub kern_sight : ℕ → Sight
kern_sight mask = record {
  flag = 8;
  set = 0;
  mask = mask;
  syllable = 0;
  over_zwnj = true;
  over_zwj = true;
  of_gpos = true;
}

-- bit 4 of byte 5: the values are across the line
abbrev pub is_across : List ℕ → Bool
is_across bytes = slice_index bytes 5 / 4 % 2 == 1

abbrev pub kerned_with : List ℕ → Bool → Glyphs → Positions → ℕ → Option ℕ → Progress
kerned_with bytes vertical gs ps at None = passed at gs ps
kerned_with bytes vertical gs ps at (Some j) =
    let n = kern_value bytes (number_at gs at) (number_at gs j) in
    if n == 0 then record { glyphs = gs; positions = ps; next = j }
    else record {
      glyphs = flagged_up_to true at j gs;
      positions = pair_kerned vertical (is_across bytes) n at j ps;
      next = j;
    }

-- a glyph that has the feature, and the next one
unfoldable pub kern_stepped : List ℕ → ℕ → Bool → Glyphs → Positions → ℕ → Progress
kern_stepped bytes mask vertical gs ps at =
    if bit_and (glyph_at gs at).mask mask == 0 then passed at gs ps
    else kerned_with bytes vertical gs ps at (next_any [] (kern_sight mask) gs (at + 1))

-- Where values are across the line, all glyphs are attached into one, each to the one that is drawn
-- before it: `step` is how many places away that is, in 16 bits.
abbrev pub with_step : ℕ → GlyphPosition → GlyphPosition
with_step step p = record p { var = stored_attachment step 2 }

unfoldable pub in_one_line : ℕ → Positions → Positions
in_one_line step ps = let_go (map (with_step step) ps) 0

abbrev pub line_step : Direction → ℕ
line_step direction = if is_backward direction then 1 else 65535

-- a text with its positions
pub record PlacedText : Type 0 where
  pub glyphs : Glyphs
  pub positions : Positions

-- one subtable, over glyphs as they are drawn
unfoldable pub kerned_along : List ℕ → ℕ → Direction → PlacedText → PlacedText
kerned_along bytes mask direction t =
    let ps = if is_across bytes then in_one_line (line_step direction) t.positions else t.positions
    in let end = applied_along (length t.glyphs)
    (kern_stepped bytes mask (is_vertical direction)) t.glyphs ps 0 in
    record { glyphs = end.glyphs; positions = end.positions }

-- Bit 1 of byte 5: it is for horizontal lines. A subtable for other lines does nothing.
abbrev pub is_for : Direction → List ℕ → Bool
is_for direction bytes = if is_vertical direction then not (slice_index bytes 5 % 2 == 1)
    else slice_index bytes 5 % 2 == 1

unfoldable pub kerned_by : ℕ → Direction → List ℕ → PlacedText → PlacedText
kerned_by mask direction bytes t =
    if is_for direction bytes then kerned_along bytes mask direction t else t

-- so many subtables, each with its length at byte 2; one shorter than its header is the last one
unfoldable pub kerned_by_subtables : ℕ → (List ℕ → PlacedText → PlacedText) → List ℕ → PlacedText →
    PlacedText
kerned_by_subtables zero each bytes t = t
kerned_by_subtables (suc n) each bytes t = if nat_lt (u16_in bytes 2) 6 then t
    else kerned_by_subtables n each (table_at bytes (u16_in bytes 2)) (each bytes t)

-- backward text as it is drawn
abbrev pub as_drawn : Direction → PlacedText → PlacedText
as_drawn direction t = if is_backward direction
    then record { glyphs = reverse t.glyphs; positions = reverse t.positions } else t

-- the table: a version, and how many subtables it has, from byte 4 on
unfoldable pub kerned_text : List ℕ → ℕ → Direction → PlacedText → PlacedText
kerned_text table mask direction t =
    if u16_in table 0 == 0
    then as_drawn direction (kerned_by_subtables (u16_in table 2) (kerned_by mask direction)
    (table_at table 4) (as_drawn direction t))
    else t

-- No text can be joined there, where the buffer wants to know.
unfoldable pub kerned : List ℕ → ℕ → Buffer → Buffer
kerned table mask b =
    let gs = unsafe_to_concat_in (asks flags_concat b) 0 (length b.glyphs) b.glyphs in
    let t = kerned_text table mask b.direction (record { glyphs = gs; positions = b.positions }) in
    record b { glyphs = t.glyphs; positions = t.positions }
