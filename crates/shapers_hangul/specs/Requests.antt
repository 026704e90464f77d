-- What Hangul requests of the map.
use Rattle.std.specs.Prelude.{List, [], ◌∷◌, map}
use Rattle.shapers_base.specs.declared.map.TheConstants.{F_NONE}
use Rattle.shapers_base.specs.declared.plan.planner.Request.{Request}
use Rattle.shapers_base.specs.Planner.{added, disabled}

-- Hangul, and what it requests after the lists of all
abbrev pub hangul_list : List Request
hangul_list = map (added F_NONE) ("ljmo" ∷ "vjmo" ∷ "tjmo" ∷ [])

abbrev pub hangul_overrides : List Request
hangul_overrides = disabled "calt" ∷ []
