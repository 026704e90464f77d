-- What a lookup of GPOS looks at in vain at a place: a text that is joined to there may get other
-- positions (HarfBuzz, `unsafe_to_concat`).
use Rattle.std.specs.Prelude.{ℕ, ◌+◌, ◌-◌, ◌*◌, ◌==◌, ◌&&◌, ◌||◌, not, nat_lt, Bool, true, false, is_some, List, [], length, Option, None, Some, if◌then◌else◌}
use Rattle.shapers_buffer.specs.Glyphs.{Glyphs}
use Rattle.shapers_buffer.specs.declared.buffer.level.Direction.{Direction}
use Rattle.opentype_face.specs.Bytes.{u16_in, table_at}
use Rattle.opentype_face.specs.Lookups.{subtable_in, subtables_in, type_in}
use Rattle.opentype_layout.specs.Looking.{all_looked, context_rules, counted, looked_by, nothing, stop_from, unjoined}
use Rattle.opentype_layout.specs.Text.{glyph_at}
use Rattle.opentype_layout.specs.declared.looking.Stretch.{Stretch}
use Rattle.opentype_layout.specs.declared.sight.Sight.{Sight}
use Rattle.opentype_gpos.specs.Anchors.{joint_in}
use Rattle.opentype_gpos.specs.Coming.{Setting, nth_came}
use Rattle.opentype_gpos.specs.Moved.{does_move, is_vertical}
use Rattle.opentype_gpos.specs.Moves.{covered_by, is_first_in, number_at, pair_with}
use Rattle.opentype_gpos.specs.Nearby.{any_seen, are_beside, base_glyph_before, mark_sight, marks_glyph, next_any, previous_any}
use Rattle.opentype_gpos.specs.declared.moves.Move.{Move}
use Rattle.opentype_gpos.specs.declared.moves.Move.TheVariants.{Adds, Attaches, Joins, Kerns}
use Rattle.opentype_gpos.specs.declared.pass.Sights.{Sights}

-- ---- searches for any glyph that fail

-- the place behind the glyph at which one ends
abbrev pub stop_any : List ℕ → Sight → Glyphs → ℕ → ℕ
stop_any gdef sight gs from =
    stop_from (length gs - from) (λ i. any_seen gdef sight (glyph_at gs i)) from

-- how many glyphs one before a place looks at
abbrev pub looked_before : List ℕ → Sight → Glyphs → ℕ → ℕ
looked_before gdef sight gs at =
    stop_from at (λ i. any_seen gdef sight (glyph_at gs (at - 1 - i))) 0

-- where it ends: HarfBuzz counts one glyph more
abbrev pub back_any : List ℕ → Sight → Glyphs → ℕ → ℕ
back_any gdef sight gs at = at - (looked_before gdef sight gs at + 1)

-- a stretch that a subtable looked at from a place, if it isn't too long to be flagged
abbrev pub span_at : ℕ → ℕ → ℕ → Glyphs → Stretch
span_at at start stop gs = counted at (length gs) (length gs) start stop

-- ---- type 2: a pair

-- whether the values of a pair move nothing
abbrev pub is_idle : Direction → Move → Bool
is_idle direction (Adds value) = false
is_idle direction (Kerns pair) = not (does_move (is_vertical direction) pair.first_value
    || does_move (is_vertical direction) pair.second_value)
is_idle direction (Attaches mark) = false
is_idle direction (Joins it) = false

-- Two glyphs that are no pair were looked at; so were two whose classes are a pair of values that
-- move nothing, as in HarfBuzz.
abbrev pub pair_tried : List ℕ → Direction → Glyphs → ℕ → ℕ → Option Move → Stretch
pair_tried bytes direction gs at second None = span_at at at (second + 1) gs
pair_tried bytes direction gs at second (Some it) =
    if (u16_in bytes 0 == 2) && is_idle direction it then span_at at at (second + 1) gs
    else nothing at

abbrev pub second_tried : List ℕ → Direction → Glyphs → ℕ → ℕ → Option ℕ → Stretch
second_tried bytes direction gs at stop None = span_at at at stop gs
second_tried bytes direction gs at stop (Some second) =
    pair_tried bytes direction gs at second (pair_with bytes gs at second)

unfoldable pub pair_looked : List ℕ → Sight → Direction → List ℕ → Glyphs → ℕ → Stretch
pair_looked gdef sight direction bytes gs at =
    second_tried bytes direction gs at (stop_any gdef sight gs (at + 1)) (next_any gdef sight gs (at
    + 1))

-- ---- types 3 to 6: the glyph before

-- Where a search for it fails, what it looked at; else the glyphs from it on, if it has no part in
-- what the subtable does.
abbrev pub from_it : Bool → ℕ → ℕ → Glyphs → Stretch
from_it fits at to gs = if fits then nothing at else span_at at to (at + 1) gs

abbrev pub before_tried : (ℕ → Bool) → ℕ → Glyphs → ℕ → Option ℕ → Stretch
before_tried fits start gs at None = span_at at start (at + 1) gs
before_tried fits start gs at (Some to) = from_it (fits to) at to gs

-- type 3: a glyph that a cursive line enters, and the one that it leaves before it
unfoldable pub cursive_looked : List ℕ → Sight → List ℕ → Glyphs → ℕ → Stretch
cursive_looked gdef sight bytes gs at =
    if is_some (joint_in bytes 0 (number_at gs at)) then
    before_tried (λ to. is_some (joint_in bytes 2 (number_at gs to))) (back_any gdef sight gs at) gs
    at (previous_any gdef sight gs at)
    else nothing at

-- type 4: a mark, and a base of the subtable
abbrev pub is_second_in : List ℕ → Glyphs → ℕ → Bool
is_second_in bytes gs to = is_some (covered_by bytes 4 (number_at gs to))

unfoldable pub base_looked : List ℕ → Sight → List ℕ → Glyphs → ℕ → Stretch
base_looked gdef sight bytes gs at = before_tried (is_second_in bytes gs) 0 gs at
    (base_glyph_before gdef sight false (table_at bytes (u16_in bytes 4)) gs at)

-- type 5: a mark, and a ligature of the subtable that has components
unfoldable pub has_components : List ℕ → Option ℕ → Bool
has_components bytes None = false
has_components bytes (Some i) =
    let ligatures = table_at bytes (u16_in bytes 10) in nat_lt i (u16_in ligatures 0)
    && not (u16_in (table_at ligatures (u16_in ligatures (2 + i * 2))) 0 == 0)

unfoldable pub ligature_looked : List ℕ → Sight → List ℕ → Glyphs → ℕ → Stretch
ligature_looked gdef sight bytes gs at = before_tried
    (λ to. has_components bytes (covered_by bytes 4 (number_at gs to))) 0 gs at
    (base_glyph_before gdef sight true [] gs at)

-- type 6: a mark, and a mark of the subtable that is of the same base
unfoldable pub is_mark_of : List ℕ → Glyphs → ℕ → ℕ → Bool
is_mark_of bytes gs at to = marks_glyph (glyph_at gs to)
    && are_beside (glyph_at gs at) (glyph_at gs to) && is_second_in bytes gs to

unfoldable pub mark_looked : List ℕ → Sight → List ℕ → Glyphs → ℕ → Stretch
mark_looked gdef sight bytes gs at =
    before_tried (is_mark_of bytes gs at) (back_any gdef (mark_sight sight) gs at) gs at
    (previous_any gdef (mark_sight sight) gs at)

-- ---- a subtable, and a lookup

-- what a subtable of this type looked at, if it is for the glyph
unfoldable pub move_looked : List ℕ → Sight → Direction → ℕ → List ℕ → Glyphs → ℕ → Stretch
move_looked gdef sight direction kind bytes gs at =
    if is_first_in bytes (glyph_at gs at) then
    (if kind == 2 then pair_looked gdef sight direction bytes gs at
    else (if kind == 3 then cursive_looked gdef sight bytes gs at
    else (if kind == 4 then base_looked gdef sight bytes gs at
    else (if kind == 5 then ligature_looked gdef sight bytes gs at
    else (if kind == 6 then mark_looked gdef sight bytes gs at
    else nothing at)))))
    else nothing at

unfoldable pub subtable_looked : Setting → Sights → List ℕ → Glyphs → ℕ → ℕ → Stretch
subtable_looked s sights lookup gs at i =
    let kind = type_in 9 lookup i in
    let bytes = subtable_in 9 lookup i in
    if (kind == 7) || (kind == 8)
    then looked_by s.gdef sights.input sights.context (length gs) gs at
    (context_rules (kind == 8) bytes (number_at gs at))
    else move_looked s.gdef sights.input s.direction kind bytes gs at

-- whether a subtable comes to something at a place
abbrev pub nth_comes : Setting → Sights → List ℕ → Glyphs → ℕ → ℕ → Bool
nth_comes s sights lookup gs at i = is_some (nth_came s sights lookup gs at i)

-- what the subtables of a lookup looked at, up to the first that does something
unfoldable pub lookup_looked : Setting → Sights → List ℕ → Glyphs → ℕ → Stretch
lookup_looked s sights lookup gs at =
    all_looked (subtables_in lookup) (nth_comes s sights lookup gs at)
    (subtable_looked s sights lookup gs at) 0 (nothing at)

-- a text at a place of which a lookup is tried, where such flags are wanted
unfoldable pub tried : Setting → Sights → List ℕ → Glyphs → ℕ → Glyphs
tried s sights lookup gs at =
    if s.concat && nat_lt at (length gs)
    then unjoined (lookup_looked s sights lookup gs at) gs else gs
