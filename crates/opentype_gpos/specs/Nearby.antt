-- The glyphs near another one that a lookup of GPOS looks at.
use Rattle.std.specs.Prelude.{ℕ, ◌+◌, ◌-◌, ◌/◌, ◌%◌, ◌==◌, ◌&&◌, ◌||◌, not, bit_and, Bool, false, is_some, List, length, Option, None, Some, if◌then◌else◌}
use Rattle.std.specs.Option.{option_map}
use Rattle.shapers_buffer.specs.Glyphs.{Glyph, Glyphs}
use Rattle.shapers_buffer.specs.Properties.{component, has_bit, is_multiplied}
use Rattle.opentype_face.specs.Glyphs.{coverage_in}
use Rattle.opentype_face.specs.Firsts.{first_from}
use Rattle.opentype_layout.specs.Sight.{is_hit, may_pass, next_from, seen_as}
use Rattle.opentype_layout.specs.Text.{glyph_at}
use Rattle.opentype_layout.specs.declared.sight.Sight.{Sight}

-- the number of a glyph
abbrev pub number_in : Glyph → ℕ
number_in g = g.glyph_id % 65536

-- What a search for any glyph makes of one: found, unless it is ignored or may be passed over.
unfoldable pub any_seen : List ℕ → Sight → Glyph → Option Bool
any_seen gdef sight g = seen_as gdef sight (not (may_pass sight g)) g

-- the next glyph from a place on
abbrev pub next_any : List ℕ → Sight → Glyphs → ℕ → Option ℕ
next_any gdef sight gs from = next_from (length gs - from) (λ i. any_seen gdef sight (glyph_at gs
    i)) from

-- the nearest one before a place
abbrev pub glyphs_between : List ℕ → Sight → Glyphs → ℕ → Option ℕ
glyphs_between gdef sight gs at = next_from at (λ i. any_seen gdef sight (glyph_at gs (at - 1 -
    i))) 0

unfoldable pub previous_any : List ℕ → Sight → Glyphs → ℕ → Option ℕ
previous_any gdef sight gs at = option_map (λ i. at - 1 - i) (glyphs_between gdef sight gs at)

abbrev pub marks_glyph : Glyph → Bool
marks_glyph g = has_bit 8 g.glyph_props.0

-- the number of the ligature that a glyph is or belongs to
abbrev pub ligature_id : Glyph → ℕ
ligature_id g = g.lig_props.0 / 32

-- Whether two glyphs stand one after the other in what a lookup put in for one: the later one is
-- none that a mark attaches to.
unfoldable pub carries_on : Glyph → Glyph → Bool
carries_on before g =
    is_multiplied g.glyph_props && not (component g.lig_props == 0) && not (marks_glyph before)
    && is_multiplied before.glyph_props && (ligature_id before == ligature_id g)
    && (component g.lig_props == component before.lig_props + 1)

unfoldable pub is_later_multiple : Glyphs → ℕ → Bool
is_later_multiple gs at =
    if at == 0 then false else carries_on (glyph_at gs (at - 1)) (glyph_at gs at)

-- The nearest glyph before a mark that is no mark itself; of glyphs that came in for one the
-- first, but for those that are in a set. The mark of a ligature takes any.
unfoldable pub is_base_at : List ℕ → Sight → Bool → List ℕ → Glyphs → ℕ → Bool
is_base_at gdef sight any bases gs at =
    is_hit (any_seen gdef sight (glyph_at gs at))
    && (any || not (is_later_multiple gs at) || is_some (coverage_in bases (number_in (glyph_at gs
    at))))

unfoldable pub base_behind : List ℕ → Sight → Bool → List ℕ → Glyphs → ℕ → ℕ → Option ℕ
base_behind gdef sight any bases gs at i =
    if is_base_at gdef sight any bases gs (at - 1 - i) then Some (at - 1 - i) else None

-- a search for it sees all but marks
abbrev pub base_sight : Sight → Sight
base_sight sight = record sight { flag = 8; set = 0 }

unfoldable pub base_glyph_before : List ℕ → Sight → Bool → List ℕ → Glyphs → ℕ → Option ℕ
base_glyph_before gdef sight any bases gs at =
    first_from at (base_behind gdef (base_sight sight) any bases gs at) 0

-- a search for a mark before another one ignores no bases and ligatures, and of marks those that
-- the lookup's classes and sets leave out
abbrev pub mark_sight : Sight → Sight
mark_sight sight = record sight { flag = bit_and sight.flag 65521 }

-- Whether two marks are of the same base, or of the same component of a ligature; one that is a
-- ligature itself is beside any of another one.
abbrev pub is_whole_ligature : Glyph → Bool
is_whole_ligature g = not (ligature_id g == 0) && (component g.lig_props == 0)

unfoldable pub are_beside : Glyph → Glyph → Bool
are_beside a b =
    if ligature_id a == ligature_id b
    then ligature_id a == 0 || component a.lig_props == component b.lig_props
    else is_whole_ligature a || is_whole_ligature b
