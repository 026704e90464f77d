-- What a lookup of GPOS comes to at a place of a text: a move, or a rule of a context that fits.
use Rattle.std.specs.Prelude.{ℕ, ◌==◌, ◌||◌, ◌⊎◌, nat_lt, Bool, List, length, Option, None, if◌then◌else◌}
use Rattle.std.proofs.Common.{inl, inr}
use Rattle.std.specs.Option.{option_map}
use Rattle.shapers_buffer.specs.Glyphs.{Glyphs}
use Rattle.shapers_buffer.specs.declared.buffer.level.Direction.{Direction}
use Rattle.opentype_face.specs.Firsts.{first_from}
use Rattle.opentype_face.specs.Lookups.{subtable_in, subtables_in, type_in}
use Rattle.opentype_layout.specs.Rules.{Found, context_in, found}
use Rattle.opentype_layout.specs.Sight.{sight_of_context, sight_of_input}
use Rattle.opentype_layout.specs.declared.sight.Application.{Application}
use Rattle.opentype_gpos.specs.Moves.{one_move, pair_found}
use Rattle.opentype_gpos.specs.declared.coming.Came.{Came}
use Rattle.opentype_gpos.specs.declared.coming.Came.TheVariants.{Fits, Moves, Pairs}
use Rattle.opentype_gpos.specs.declared.moves.Move.{Move}
use Rattle.opentype_gpos.specs.declared.pass.Pass.{Pass}
use Rattle.opentype_gpos.specs.declared.pass.Sights.{Sights}

-- the tables, the direction of the line, how the plan has the lookup applied, and whether flags of
-- concatenation are wanted
pub record Setting : Type 0 where
  pub gdef : List ℕ
  pub gpos : List ℕ
  pub direction : Direction
  pub how : Application
  pub concat : Bool

abbrev pub setting_of : Pass → Setting
setting_of pass = record {
  gdef = pass.gdef.now;
  gpos = pass.gpos.now;
  direction = pass.direction;
  how = pass.how;
  concat = pass.concat;
}

-- what a lookup's table sees: the input of its rules, and what stands around it
unfoldable pub sights_in : Setting → List ℕ → Sights
sights_in s lookup = record {
  input = sight_of_input s.gdef lookup s.how 0;
  context = sight_of_context s.gdef lookup s.how 0;
}

-- what code found: the same, with a rule as it is in the code
abbrev pub came : Came → Move ⊎ Found
came (Moves it) = inl it
came (Pairs it) = inl (pair_found it)
came (Fits rule) = inr (found rule)

-- What one of a lookup's subtables comes to: types 7 and 8 are contexts and chained contexts, and
-- type 9 names another one.
unfoldable pub nth_came : Setting → Sights → List ℕ → Glyphs → ℕ → ℕ → Option (Move ⊎ Found)
nth_came s sights lookup gs at i =
    let kind = type_in 9 lookup i in
    let bytes = subtable_in 9 lookup i in
    if (kind == 7) || (kind == 8)
    then option_map inr (context_in (kind == 8) s.gdef sights.input sights.context bytes gs at)
    else option_map inl (one_move s.gdef sights.input kind bytes gs at)

-- what a lookup comes to at a place of the text: what the first of its subtables that fits does
unfoldable pub came_in : Setting → Sights → List ℕ → Glyphs → ℕ → Option (Move ⊎ Found)
came_in s sights lookup gs at =
    if nat_lt at (length gs)
    then first_from (subtables_in lookup) (nth_came s sights lookup gs at) 0 else None
