-- Lemmas about the features of a map.
use Rattle.std.proofs.Common.{◌≡◌, ◌%◌, IsTrue, Bool, List, [], ◌∷◌, arith}
use Rattle.std.specs.Prelude.{find, Some}
use Rattle.std.proofs.lemmas.Grind.{common_steps}
use Rattle.std.specs.List.{list_all}
use Rattle.shapers_base.specs.declared.map.feature_map_t.{feature_map_t}
use Rattle.shapers_base.specs.Map.{is_off_flags}

-- the mask of a feature that is found touches no glyph flag bit
pub found_is_off_flags : (p : feature_map_t → Bool) (fs : List feature_map_t) (f : feature_map_t) → find p fs ≡ Some f
    → IsTrue (list_all is_off_flags fs) → f.mask % 8 ≡ 0
found_is_off_flags p [] f = grind (arith, common_steps)
found_is_off_flags p (g ∷ fs) f = grind (arith, common_steps, found_is_off_flags p fs f)
