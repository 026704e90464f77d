-- What subtables of GPOS do at a place of a text.
use Rattle.std.specs.Prelude.{ℕ, ◌+◌, ◌==◌, ◌&&◌, not, ◌-ℤ◌, Bool, true, false, is_some, List, [], Option, None, if◌then◌else◌}
use Rattle.std.specs.Int.{saturate_to_bits}
use Rattle.std.specs.Option.{option_and_then, option_map}
use Rattle.shapers_buffer.specs.Glyphs.{Glyph, Glyphs}
use Rattle.shapers_buffer.specs.Properties.{component, has_bit}
use Rattle.opentype_face.specs.Bytes.{u16_in, table_at}
use Rattle.opentype_face.specs.Glyphs.{coverage_in}
use Rattle.opentype_layout.specs.Text.{glyph_at}
use Rattle.opentype_layout.specs.declared.sight.Sight.{Sight}
use Rattle.opentype_gpos.specs.Anchors.{joint_in, ligature_points_in, points_in}
use Rattle.opentype_gpos.specs.Nearby.{are_beside, base_glyph_before, marks_glyph, ligature_id, mark_sight, next_any, number_in, previous_any}
use Rattle.opentype_gpos.specs.Values.{pair_in, single_in, size_of, value_in}
use Rattle.opentype_gpos.specs.declared.anchors.Point.{Point}
use Rattle.opentype_gpos.specs.declared.moves.Move.{Move}
use Rattle.opentype_gpos.specs.declared.moves.PairPlace.{PairPlace}
use Rattle.opentype_gpos.specs.declared.moves.Move.TheVariants.{Adds, Attaches, Joins, Kerns}

-- the number of the glyph at a place
abbrev pub number_at : Glyphs → ℕ → ℕ
number_at gs at = number_in (glyph_at gs at)

-- the place of a glyph in the set whose offset stands so many bytes behind a subtable's start
abbrev pub covered_by : List ℕ → ℕ → ℕ → Option ℕ
covered_by bytes offset glyph = coverage_in (table_at bytes (u16_in bytes offset)) glyph

-- whether a subtable is for a glyph
abbrev pub is_first_in : List ℕ → Glyph → Bool
is_first_in bytes g = is_some (covered_by bytes 2 (number_in g))

-- type 1: a value for the glyph
unfoldable pub single_move : List ℕ → Glyphs → ℕ → Option Move
single_move bytes gs at = option_map (λ place.
    Adds (value_in (table_at bytes place) 0 (u16_in bytes 4)))
    (single_in bytes (number_at gs at))

-- type 2: values for the glyph and the next one
abbrev pub pair_values : List ℕ → ℕ → ℕ → Move
pair_values bytes second place = Kerns (record {
  second = second;
  first_value = value_in (table_at bytes place) 0 (u16_in bytes 4);
  second_value = value_in (table_at bytes place) (size_of (u16_in bytes 4)) (u16_in bytes 6);
  has_second = not (u16_in bytes 6 == 0);
})

-- and of a pair that code found the place of
abbrev pub pair_found : PairPlace → Move
pair_found it = pair_values it.bytes.now it.second it.place

unfoldable pub pair_with : List ℕ → Glyphs → ℕ → ℕ → Option Move
pair_with bytes gs at second =
    option_map (pair_values bytes second) (pair_in bytes (number_at gs at) (number_at gs second))

unfoldable pub pair_move : List ℕ → Sight → List ℕ → Glyphs → ℕ → Option Move
pair_move gdef sight bytes gs at =
    if is_first_in bytes (glyph_at gs at)
    then option_and_then (pair_with bytes gs at) (next_any gdef sight gs (at + 1)) else None

-- a mark so that its point comes upon that of another glyph
abbrev pub attaching : ℕ → Point × Point → Move
attaching to points = Attaches (record {
  to = to;
  x = saturate_to_bits 31 (points.0.x -ℤ points.1.x);
  y = saturate_to_bits 31 (points.0.y -ℤ points.1.y);
})

unfoldable pub attached_by : List ℕ → Glyphs → ℕ → ℕ → Option Move
attached_by bytes gs at to =
    option_map (attaching to) (points_in bytes (number_at gs at) (number_at gs to))

-- type 4: a mark upon a base
unfoldable pub base_move : List ℕ → Sight → List ℕ → Glyphs → ℕ → Option Move
base_move gdef sight bytes gs at =
    if is_first_in bytes (glyph_at gs at)
    then option_and_then (attached_by bytes gs at)
    (base_glyph_before gdef sight false (table_at bytes (u16_in bytes 4)) gs at) else None

-- type 6: a mark upon another mark
unfoldable pub mark_with : List ℕ → Glyphs → ℕ → ℕ → Option Move
mark_with bytes gs at to =
    if marks_glyph (glyph_at gs to) && are_beside (glyph_at gs at) (glyph_at gs to)
    then attached_by bytes gs at to else None

unfoldable pub mark_move : List ℕ → Sight → List ℕ → Glyphs → ℕ → Option Move
mark_move gdef sight bytes gs at =
    if is_first_in bytes (glyph_at gs at)
    then option_and_then (mark_with bytes gs at) (previous_any gdef (mark_sight sight) gs at) else
    None

-- type 5: a mark upon the component of a ligature that it is of, if it is of one of that, else the
-- last
unfoldable pub component_for : Glyph → Glyph → ℕ
component_for mark ligature =
    if not (ligature_id ligature == 0) && (ligature_id ligature == ligature_id mark)
    then component mark.lig_props else 0

unfoldable pub ligature_with : List ℕ → Glyphs → ℕ → ℕ → Option Move
ligature_with bytes gs at to = option_map (attaching to) (ligature_points_in bytes (number_at gs at)
    (number_at gs to) (component_for (glyph_at gs at) (glyph_at gs to)))

unfoldable pub ligature_move : List ℕ → Sight → List ℕ → Glyphs → ℕ → Option Move
ligature_move gdef sight bytes gs at =
    if is_first_in bytes (glyph_at gs at)
    then option_and_then (ligature_with bytes gs at) (base_glyph_before gdef sight true [] gs at)
    else None

-- type 3: the point where a glyph is entered upon that where the one before it is left
abbrev pub joining : Bool → ℕ → Point → Point → Move
joining from_end before entry exit =
    Joins (record { before = before; exit = exit; entry = entry; from_end = from_end })

unfoldable pub joined_with : List ℕ → Glyphs → Bool → Point → ℕ → Option Move
joined_with bytes gs from_end entry before =
    option_map (joining from_end before entry) (joint_in bytes 2 (number_at gs before))

unfoldable pub joined_from : List ℕ → Sight → List ℕ → Glyphs → ℕ → Point → Option Move
joined_from gdef sight bytes gs at entry = option_and_then
    (joined_with bytes gs (has_bit 1 sight.flag) entry) (previous_any gdef sight gs at)

unfoldable pub cursive_move : List ℕ → Sight → List ℕ → Glyphs → ℕ → Option Move
cursive_move gdef sight bytes gs at =
    option_and_then (joined_from gdef sight bytes gs at) (joint_in bytes 0 (number_at gs at))

-- what a subtable of this type does
unfoldable pub one_move : List ℕ → Sight → ℕ → List ℕ → Glyphs → ℕ → Option Move
one_move gdef sight kind bytes gs at =
    if kind == 1 then single_move bytes gs at
    else (if kind == 2 then pair_move gdef sight bytes gs at
    else (if kind == 3 then cursive_move gdef sight bytes gs at
    else (if kind == 4 then base_move gdef sight bytes gs at
    else (if kind == 5 then ligature_move gdef sight bytes gs at
    else (if kind == 6 then mark_move gdef sight bytes gs at
    else None)))))
