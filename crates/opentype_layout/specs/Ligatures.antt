-- Marks of ligatures, which are of one input only where they are of one component.
use Rattle.std.specs.Prelude.{ℕ, ◌+◌, ◌-◌, ◌/◌, ◌==◌, ◌&&◌, not, Bool, true, false, List, Option, None, Some, if◌then◌else◌}
use Rattle.std.specs.List.{list_any}
use Rattle.shapers_buffer.specs.Glyphs.{Glyphs}
use Rattle.shapers_buffer.specs.Properties.{component}
use Rattle.shapers_buffer.specs.declared.buffer.lig_props.LigProps.{LigProps}
use Rattle.opentype_layout.specs.declared.sight.Sight.{Sight}
use Rattle.opentype_layout.specs.Pattern.{next_in, places_from}
use Rattle.opentype_layout.specs.Sight.{ignores, next_from}
use Rattle.opentype_layout.specs.Text.{glyph_at}

-- the number of the ligature that a glyph is or belongs to; 0 for none
abbrev pub ligature_in : LigProps → ℕ
ligature_in props = props.0 / 32

-- whether it is a mark of a ligature's component
abbrev pub is_attached : LigProps → Bool
is_attached props = not (ligature_in props == 0) && not (component props == 0)

-- what a search backwards for a ligature makes of a glyph: those of the ligature are passed up to
-- itself
abbrev pub base_seen : ℕ → LigProps → Option Bool
base_seen number props =
    if ligature_in props == number then (if component props == 0 then Some true else None) else
    Some false

-- how many glyphs stand between a mark and its ligature
abbrev pub base_before : Glyphs → ℕ → ℕ → Option ℕ
base_before gs number at = next_from (at - 0) (λ i. base_seen number (glyph_at gs (at - 1 -
    i)).lig_props) 0

abbrev pub ignores_base : List ℕ → Sight → Glyphs → ℕ → Option ℕ → Bool
ignores_base gdef sight gs at None = false
ignores_base gdef sight gs at (Some i) = ignores gdef sight.flag sight.set (glyph_at gs (at - 1 -
    i))

-- Whether a rule looks through a mark's ligature, since its lookup ignores that. HarfBuzz finds the
-- ligature among the glyphs that GSUB has put out, so not in GPOS.
abbrev pub is_seen_through : List ℕ → Sight → Glyphs → ℕ → ℕ → Bool
is_seen_through gdef sight gs number at =
    if sight.of_gpos then false else ignores_base gdef sight gs at (base_before gs number at)

-- Whether a glyph can't be of an input that begins with another one (HarfBuzz, `match_input`).
-- Behind a mark of a ligature's component come marks of that component alone, unless the ligature
-- is ignored; behind any other glyph no mark of another ligature's component.
unfoldable pub is_apart : List ℕ → Sight → Glyphs → ℕ → ℕ → Bool
is_apart gdef sight gs at place =
    let first = (glyph_at gs at).lig_props in
    let other = (glyph_at gs place).lig_props in
    let is_same = ligature_in other == ligature_in first in
    if is_attached first then
    (if is_same && (component other == component first) then false
    else not (is_seen_through gdef sight gs (ligature_in first) at))
    else is_attached other && not is_same

abbrev pub if_together : List ℕ → Sight → Glyphs → ℕ → Option (List ℕ) → Option (List ℕ)
if_together gdef sight gs at None = None
if_together gdef sight gs at (Some places) =
    if list_any (is_apart gdef sight gs at) places then None else Some places

-- where the glyphs of an input are behind its first one
unfoldable pub input_in : List ℕ → Sight → (ℕ → ℕ → Bool) → ℕ → Glyphs → ℕ → Option (List ℕ)
input_in gdef sight test count gs at =
    if_together gdef sight gs at (places_from count (next_in gdef sight test gs) 0 (at + 1))
