-- Subtables of GPOS, computed over bytes written out as OpenType lays them out.
use Rattle.std.specs.Prelude.{◌≡◌, ℕ, ℤ, pos, negsuc, true, false, List, [], ◌∷◌, None, Some, refl}
use Rattle.shapers_buffer.specs.Glyph.{default_glyph}
use Rattle.shapers_buffer.specs.Glyphs.{Glyph}
use Rattle.shapers_buffer.specs.declared.buffer.glyph.GlyphPosition.{GlyphPosition}
use Rattle.shapers_buffer.specs.declared.buffer.level.Direction.TheVariants.{LeftToRight, RightToLeft}
use Rattle.opentype_face.specs.Bytes.{table_at}
use Rattle.opentype_face.specs.Ranges.{bisect}
use Rattle.opentype_gpos.specs.Anchors.{component_point, ligature_point, ligature_points_by, ligature_points_in, points_by, points_in}
use Rattle.opentype_gpos.specs.Finished.{finished_from, chain_followed, hung_on, joined_to, let_go, link_at, pen_along, pen_behind, pen_between, placed_on, target_in}
use Rattle.opentype_gpos.specs.Moved.{Positions, with_mark_move, with_value}
use Rattle.opentype_gpos.specs.Moves.{component_for, pair_found}
use Rattle.opentype_gpos.specs.Nearby.{are_beside, carries_on}
use Rattle.opentype_gpos.specs.Values.{class_pair, pair_in, single_in, size_of, value_in}
use Rattle.opentype_gpos.specs.declared.anchors.Point.{Point}
use Rattle.opentype_gpos.specs.declared.moves.Move.TheVariants.{Kerns}
use Rattle.opentype_gpos.specs.declared.moves.PairPlace.{PairPlace}
use Rattle.opentype_gpos.specs.declared.values.Value.{Value}

abbrev value : ℤ → ℤ → ℤ → ℤ → Value
value x y along down = record { x_placement = x; y_placement = y; x_advance = along; y_advance = down }

abbrev at : ℤ → ℤ → Point
at x y = record { x = x; y = y }

-- type 1, format 1: glyph 5 is 10 units narrower
abbrev narrower : List ℕ
narrower = 0 ∷ 1 ∷ 0 ∷ 8 ∷ 0 ∷ 4 ∷ 255 ∷ 246
    ∷ 0 ∷ 1 ∷ 0 ∷ 1 ∷ 0 ∷ 5 ∷ []

single_place : single_in narrower 5 ≡ Some 6
unfolding bisect
single_place = refl

single_none : single_in narrower 6 ≡ None
unfolding bisect
single_none = refl

single_value : value_in (table_at narrower 6) 0 4 ≡ value (pos 0) (pos 0) (negsuc 9) (pos 0)
single_value = refl

-- format 2: glyphs 5 and 6 have each a value of x placement and y advance
abbrev each_own : List ℕ
each_own = 0 ∷ 2 ∷ 0 ∷ 16 ∷ 0 ∷ 9 ∷ 0 ∷ 2 ∷ 0 ∷ 1 ∷ 0 ∷ 2 ∷ 0 ∷ 3 ∷ 0 ∷ 4
    ∷ 0 ∷ 2 ∷ 0 ∷ 1 ∷ 0 ∷ 5 ∷ 0 ∷ 6 ∷ 0 ∷ 0 ∷ []

second_place : single_in each_own 6 ≡ Some 12
unfolding bisect
second_place = refl

second_value : value_in (table_at each_own 12) 0 9 ≡ value (pos 3) (pos 0) (pos 0) (pos 4)
second_value = refl

-- each bit of a format is two bytes
all_bits : size_of 255 ≡ 16
all_bits = refl

-- type 2, format 1: glyph 7 comes 30 units nearer to glyph 5
abbrev nearer : List ℕ
nearer = 0 ∷ 1 ∷ 0 ∷ 18 ∷ 0 ∷ 4 ∷ 0 ∷ 0 ∷ 0 ∷ 1 ∷ 0 ∷ 12
    ∷ 0 ∷ 1 ∷ 0 ∷ 7 ∷ 255 ∷ 226
    ∷ 0 ∷ 1 ∷ 0 ∷ 1 ∷ 0 ∷ 5 ∷ []

pair_place : pair_in nearer 5 7 ≡ Some 16
unfolding bisect
pair_place = refl

pair_other : pair_in nearer 5 8 ≡ None
unfolding bisect
pair_other = refl

pair_none : pair_in nearer 7 5 ≡ None
unfolding bisect
pair_none = refl

pair_value : value_in (table_at nearer 16) 0 4 ≡ value (pos 0) (pos 0) (negsuc 29) (pos 0)
pair_value = refl

-- a pair that code found the place of: glyph 7 stands at place 3, and has no value of its own
found_nearer : (it : PairPlace) → it.bytes.now ≡ nearer → it.second ≡ 3 → it.place ≡ 16 →
    pair_found it ≡ Kerns (record {
      second = 3;
      first_value = value (pos 0) (pos 0) (negsuc 29) (pos 0);
      second_value = value (pos 0) (pos 0) (pos 0) (pos 0);
      has_second = false;
    })
found_nearer it bytes second place = rw (bytes, second, place) refl

-- and where each has a value: behind the first one's there is the second one's
abbrev both_nearer : List ℕ
both_nearer = 0 ∷ 1 ∷ 0 ∷ 20 ∷ 0 ∷ 5 ∷ 0 ∷ 8 ∷ 0 ∷ 1 ∷ 0 ∷ 12
    ∷ 0 ∷ 1 ∷ 0 ∷ 7 ∷ 0 ∷ 9 ∷ 255 ∷ 226 ∷ 0 ∷ 2 ∷ []

found_both : (it : PairPlace) → it.bytes.now ≡ both_nearer → it.second ≡ 1 → it.place ≡ 16 →
    pair_found it ≡ Kerns (record {
      second = 1;
      first_value = value (pos 9) (pos 0) (negsuc 29) (pos 0);
      second_value = value (pos 0) (pos 0) (pos 0) (pos 2);
      has_second = true;
    })
found_both it bytes second place = rw (bytes, second, place) refl

-- format 2: glyph 5 is of class 0, glyph 9 of class 1 as a second one, and others of class 0
abbrev with_classes : ℕ → ℕ → List ℕ
with_classes rows columns = 0 ∷ 2 ∷ 0 ∷ 20 ∷ 0 ∷ 4 ∷ 0 ∷ 0 ∷ 0 ∷ 26 ∷ 0 ∷ 34 ∷ 0 ∷ rows ∷ 0 ∷ columns
    ∷ 0 ∷ 0 ∷ 255 ∷ 236
    ∷ 0 ∷ 1 ∷ 0 ∷ 1 ∷ 0 ∷ 5
    ∷ 0 ∷ 1 ∷ 0 ∷ 5 ∷ 0 ∷ 1 ∷ 0 ∷ 0
    ∷ 0 ∷ 1 ∷ 0 ∷ 9 ∷ 0 ∷ 1 ∷ 0 ∷ 1 ∷ []

abbrev by_classes : List ℕ
by_classes = with_classes 1 2

class_place : pair_in by_classes 5 9 ≡ Some 18
unfolding bisect
class_place = refl

class_other : pair_in by_classes 5 8 ≡ Some 16
unfolding bisect
class_other = refl

-- the table needs a row and a column for the classes
class_cell : class_pair by_classes 5 9 ≡ Some 18
unfolding bisect
class_cell = refl

class_without_row : class_pair (with_classes 0 2) 5 9 ≡ None
unfolding bisect
class_without_row = refl

class_without_column : class_pair (with_classes 1 1) 5 9 ≡ None
unfolding bisect
class_without_column = refl

-- types 4 and 6: mark 20 has its point at 50, 200, base 5 at 300, 600
abbrev upon_base : List ℕ
upon_base = 0 ∷ 1 ∷ 0 ∷ 12 ∷ 0 ∷ 18 ∷ 0 ∷ 1 ∷ 0 ∷ 24 ∷ 0 ∷ 36
    ∷ 0 ∷ 1 ∷ 0 ∷ 1 ∷ 0 ∷ 20
    ∷ 0 ∷ 1 ∷ 0 ∷ 1 ∷ 0 ∷ 5
    ∷ 0 ∷ 1 ∷ 0 ∷ 0 ∷ 0 ∷ 6 ∷ 0 ∷ 1 ∷ 0 ∷ 50 ∷ 0 ∷ 200
    ∷ 0 ∷ 1 ∷ 0 ∷ 4 ∷ 0 ∷ 1 ∷ 1 ∷ 44 ∷ 2 ∷ 88 ∷ []

base_points : points_in upon_base 20 5 ≡ Some (at (pos 300) (pos 600), at (pos 50) (pos 200))
unfolding bisect
base_points = refl

no_base : points_in upon_base 20 6 ≡ None
unfolding bisect
no_base = refl

-- by the mark's place, which must be among the marks of the one format
mark_place : points_by upon_base (Some 0) 5 ≡ Some (at (pos 300) (pos 600), at (pos 50) (pos 200))
unfolding bisect
mark_place = refl

no_mark_place : points_by upon_base None 5 ≡ None
no_mark_place = refl

mark_past_the_last : points_by upon_base (Some 1) 5 ≡ None
unfolding bisect
mark_past_the_last = refl

mark_of_another_format : points_by (0 ∷ 2 ∷ []) (Some 0) 5 ≡ None
mark_of_another_format = refl

-- type 5: the ligature has two components, with points at 100, 600 and 300, 600
abbrev upon_ligature : List ℕ
upon_ligature = 0 ∷ 1 ∷ 0 ∷ 12 ∷ 0 ∷ 18 ∷ 0 ∷ 1 ∷ 0 ∷ 24 ∷ 0 ∷ 36
    ∷ 0 ∷ 1 ∷ 0 ∷ 1 ∷ 0 ∷ 20
    ∷ 0 ∷ 1 ∷ 0 ∷ 1 ∷ 0 ∷ 5
    ∷ 0 ∷ 1 ∷ 0 ∷ 0 ∷ 0 ∷ 6 ∷ 0 ∷ 1 ∷ 0 ∷ 50 ∷ 0 ∷ 200
    ∷ 0 ∷ 1 ∷ 0 ∷ 4
    ∷ 0 ∷ 2 ∷ 0 ∷ 6 ∷ 0 ∷ 12 ∷ 0 ∷ 1 ∷ 0 ∷ 100 ∷ 2 ∷ 88 ∷ 0 ∷ 1 ∷ 1 ∷ 44 ∷ 2 ∷ 88 ∷ []

ligature_by_place : ligature_points_by upon_ligature (Some 0) 5 1
    ≡ Some (at (pos 100) (pos 600), at (pos 50) (pos 200))
unfolding bisect ligature_point component_point
ligature_by_place = refl

no_place_for_ligature : ligature_points_by upon_ligature None 5 1 ≡ None
no_place_for_ligature = refl

first_component : ligature_points_in upon_ligature 20 5 1
    ≡ Some (at (pos 100) (pos 600), at (pos 50) (pos 200))
unfolding bisect component_point ligature_point
first_component = refl

last_component : ligature_points_in upon_ligature 20 5 0
    ≡ Some (at (pos 300) (pos 600), at (pos 50) (pos 200))
unfolding bisect component_point ligature_point
last_component = refl

beyond_components : ligature_points_in upon_ligature 20 5 3
    ≡ Some (at (pos 300) (pos 600), at (pos 50) (pos 200))
unfolding bisect component_point ligature_point
beyond_components = refl

-- glyphs by their classes and marks of lookups, and by their ligatures
abbrev glyph : ℕ → ℕ → Glyph
glyph props ligature = record default_glyph { glyph_props = record { 0 = props }; lig_props = record { 0 = ligature } }

-- a mark of ligature 1's second component: of that ligature, of another one, of none
component_own : component_for (glyph 8 34) (glyph 4 50) ≡ 2
unfolding component_for
component_own = refl

component_other : component_for (glyph 8 34) (glyph 4 82) ≡ 0
unfolding component_for
component_other = refl

component_none : component_for (glyph 8 2) (glyph 4 0) ≡ 0
unfolding component_for
component_none = refl

-- the second part of two goes on the first, but neither behind a mark nor the third one
second_part : carries_on (glyph 66 0) (glyph 66 1) ≡ true
unfolding carries_on
second_part = refl

behind_mark : carries_on (glyph 72 0) (glyph 66 1) ≡ false
unfolding carries_on
behind_mark = refl

third_part : carries_on (glyph 66 0) (glyph 66 2) ≡ false
unfolding carries_on
third_part = refl

other_ligature : carries_on (glyph 66 32) (glyph 66 1) ≡ false
unfolding carries_on
other_ligature = refl

-- marks of no ligature, of one component, of two, and one that is a ligature
beside_none : are_beside (glyph 8 0) (glyph 8 0) ≡ true
unfolding are_beside
beside_none = refl

beside_same : are_beside (glyph 8 34) (glyph 8 34) ≡ true
unfolding are_beside
beside_same = refl

beside_two : are_beside (glyph 8 33) (glyph 8 34) ≡ false
unfolding are_beside
beside_two = refl

beside_other : are_beside (glyph 8 33) (glyph 8 65) ≡ false
unfolding are_beside
beside_other = refl

beside_ligature : are_beside (glyph 8 33) (glyph 8 82) ≡ true
unfolding are_beside
beside_ligature = refl

-- ---- positions
abbrev position : ℤ → ℤ → ℤ → ℤ → ℕ → GlyphPosition
position x y x_off y_off var =
    record { x_advance = x; y_advance = y; x_offset = x_off; y_offset = y_off; var = var }

level : with_value false (value (pos 1) (pos 2) (pos 3) (pos 4)) (position (pos 10) (pos 20) (pos 30) (pos 40) 5)
    ≡ position (pos 13) (pos 20) (pos 31) (pos 42) 5
unfolding with_value
level = refl

upright : with_value true (value (pos 1) (pos 2) (pos 3) (pos 4)) (position (pos 10) (pos 20) (pos 30) (pos 40) 5)
    ≡ position (pos 10) (pos 16) (pos 31) (pos 42) 5
unfolding with_value
upright = refl

-- a mark two places behind its base: 65534 is -2 in 16 bits, and 1 says that it is a mark
marked : with_mark_move (record { to = 1; x = pos 250; y = pos 400 }) 3
    (position (pos 1) (pos 2) (pos 3) (pos 4) 5) ≡ position (pos 1) (pos 2) (pos 250) (pos 400) 131070
unfolding with_mark_move
marked = refl

farthest : with_mark_move (record { to = 0; x = pos 250; y = pos 400 }) 32768
    (position (pos 1) (pos 2) (pos 3) (pos 4) 5) ≡ position (pos 1) (pos 2) (pos 250) (pos 400) 98304
unfolding with_mark_move
farthest = refl

too_far : with_mark_move (record { to = 0; x = pos 250; y = pos 400 }) 32769
    (position (pos 1) (pos 2) (pos 3) (pos 4) 65541) ≡ position (pos 1) (pos 2) (pos 3) (pos 4) 65536
unfolding with_mark_move
too_far = refl

-- and where it leads
back : target_in 131070 3 4 ≡ Some 1
unfolding target_in
back = refl

before_text : target_in 131070 1 4 ≡ None
unfolding target_in
before_text = refl

forth : target_in 131074 1 4 ≡ Some 3
unfolding target_in
forth = refl

behind_text : target_in 131074 2 4 ≡ None
unfolding target_in
behind_text = refl

nowhere : target_in 65536 2 4 ≡ None
unfolding target_in
nowhere = refl

-- a base 500 units wide, and a mark upon it: forwards it goes back over the base
abbrev base_and_mark : Positions
base_and_mark = position (pos 500) (pos 0) (pos 7) (pos 9) 0
    ∷ position (pos 0) (pos 0) (pos 250) (pos 400) 131071 ∷ []

forwards : finished_from 2 LeftToRight base_and_mark 0
    ≡ position (pos 500) (pos 0) (pos 7) (pos 9) 0
    ∷ position (pos 0) (pos 0) (negsuc 242) (pos 409) 65536 ∷ []
unfolding finished_from chain_followed hung_on let_go link_at pen_along pen_behind pen_between placed_on target_in
forwards = refl

-- backwards over what the marks behind the base, up to itself, move the pen
backwards : finished_from 2 RightToLeft base_and_mark 0
    ≡ position (pos 500) (pos 0) (pos 7) (pos 9) 0
    ∷ position (pos 0) (pos 0) (pos 257) (pos 409) 65536 ∷ []
unfolding finished_from chain_followed hung_on let_go link_at pen_along pen_behind pen_between placed_on target_in
backwards = refl

-- in a cursive line the offset across it is taken over
cursive : finished_from 2 LeftToRight (position (pos 500) (pos 0) (pos 7) (pos 9) 0
    ∷ position (pos 300) (pos 0) (pos 1) (pos 20) 196607 ∷ []) 0
    ≡ position (pos 500) (pos 0) (pos 7) (pos 9) 0
    ∷ position (pos 300) (pos 0) (pos 1) (pos 29) 131072 ∷ []
unfolding finished_from chain_followed joined_to let_go link_at placed_on target_in
cursive = refl
