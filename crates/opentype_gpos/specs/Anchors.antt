-- Where marks attach.
use Rattle.std.specs.Prelude.{ℕ, ◌+◌, ◌-◌, ◌*◌, ◌==◌, ◌||◌, nat_lt, not, List, Option, None, Some, if◌then◌else◌}
use Rattle.std.specs.Option.{option_and_then}
use Rattle.opentype_face.specs.Bytes.{u16_in, table_at}
use Rattle.opentype_face.specs.Glyphs.{coverage_in}
use Rattle.opentype_gpos.specs.Values.{signed_in}
use Rattle.opentype_gpos.specs.declared.anchors.Point.{Point}

-- types 4 and 6: the points that come together, of a mark and of a base or another mark
abbrev pub point_in : List ℕ → Point
point_in anchor = record { x = signed_in anchor 2; y = signed_in anchor 4 }

abbrev pub base_point : List ℕ → List ℕ → ℕ → ℕ → ℕ → Option (Point × Point)
base_point marks bases classes mark base =
    let class = u16_in marks (2 + mark * 4) in
    let anchor = table_at bases (u16_in bases (2 + (base * classes + class) * 2)) in
    if not (nat_lt mark (u16_in marks 0)) || not (nat_lt base (u16_in bases 0))
    || not (nat_lt class classes) || (u16_in anchor 0 == 0) then None
    else Some (point_in anchor, point_in (table_at marks (u16_in marks (4 + mark * 4))))

abbrev pub points_at : List ℕ → Option ℕ → Option ℕ → Option (Point × Point)
points_at bytes None base = None
points_at bytes (Some mark) None = None
points_at bytes (Some mark) (Some base) = base_point (table_at bytes (u16_in bytes 8))
    (table_at bytes (u16_in bytes 10)) (u16_in bytes 6) mark base

-- the mark by its place in the set of marks
abbrev pub points_by : List ℕ → Option ℕ → ℕ → Option (Point × Point)
points_by bytes mark base = if u16_in bytes 0 == 1 then
    points_at bytes mark (coverage_in (table_at bytes (u16_in bytes 4)) base) else None

abbrev pub points_in : List ℕ → ℕ → ℕ → Option (Point × Point)
points_in bytes mark base =
    points_by bytes (coverage_in (table_at bytes (u16_in bytes 2)) mark) base

-- type 5: the points of a mark and of a component of a ligature, by its number from 1 on; the last
-- one is meant by 0, and by a number beyond it
abbrev pub row_of : ℕ → ℕ → ℕ
row_of component count = if component == 0 || nat_lt count component then count - 1 else component
    - 1

unfoldable pub component_point : List ℕ → List ℕ → ℕ → ℕ → ℕ → Option (Point × Point)
component_point marks ligature classes mark component = if u16_in ligature 0 == 0 then None
    else base_point marks ligature classes mark (row_of component (u16_in ligature 0))

unfoldable pub ligature_point : List ℕ → ℕ → ℕ → ℕ → Option (Point × Point)
ligature_point bytes component mark i =
    let ligatures = table_at bytes (u16_in bytes 10) in
    if nat_lt i (u16_in ligatures 0) then component_point (table_at bytes (u16_in bytes 8))
    (table_at ligatures (u16_in ligatures (2 + i * 2))) (u16_in bytes 6) mark component
    else None

abbrev pub ligature_points_at : List ℕ → ℕ → Option ℕ → Option ℕ → Option (Point × Point)
ligature_points_at bytes component None ligature = None
ligature_points_at bytes component (Some mark) None = None
ligature_points_at bytes component (Some mark) (Some i) = ligature_point bytes component mark i

-- type 5: the points of a mark and of a component of a ligature, by the mark's place in the set of
-- marks, if the subtable covers both
abbrev pub ligature_points_by : List ℕ → Option ℕ → ℕ → ℕ → Option (Point × Point)
ligature_points_by bytes mark ligature component = if u16_in bytes 0 == 1 then ligature_points_at
    bytes component mark (coverage_in (table_at bytes (u16_in bytes 4)) ligature) else None

-- the same by the mark's glyph
abbrev pub ligature_points_in : List ℕ → ℕ → ℕ → ℕ → Option (Point × Point)
ligature_points_in bytes mark ligature component = ligature_points_by bytes (coverage_in (table_at
    bytes (u16_in bytes 2)) mark) ligature component

-- type 3: the point where a cursive line enters a glyph, 0 bytes behind its record's start, or
-- leaves it, 2 bytes behind
unfoldable pub joint_point : List ℕ → ℕ → ℕ → Option Point
joint_point bytes side i =
    let anchor = table_at bytes (u16_in bytes (6 + i * 4 + side)) in
    if not (nat_lt i (u16_in bytes 4)) || (u16_in anchor 0 == 0) then None else Some (point_in
    anchor)

-- the point of a glyph that a subtable of type 3 covers
unfoldable pub joint_in : List ℕ → ℕ → ℕ → Option Point
joint_in bytes side glyph = if u16_in bytes 0 == 1 then
    option_and_then (joint_point bytes side) (coverage_in (table_at bytes (u16_in bytes 2)) glyph)
    else None
