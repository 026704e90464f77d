-- What Khmer keeps in the plan, computed: each mask at the place of its feature, none for the
-- features of the whole text.
use Rattle.std.specs.Prelude.{◌≡◌, ℕ, List, [], ◌∷◌, None, true, codes, refl}
use Prim.Native.String.{String}
use Rattle.shapers_base.specs.Map.{Map}
use Rattle.shapers_base.specs.declared.map.feature_map_t.{feature_map_t}
use Rattle.shapers_khmer.specs.Plan.{khmer_masks}

abbrev feature : String → ℕ → feature_map_t
feature tag mask = record { tag = record { 0 = codes tag }; mask = mask; stage = 0 }

abbrev map_of : List feature_map_t → Map
map_of features = record { features = features; stages = []; lookups = []; global = 0; chosen = None; found = true }

-- the features of a font in another order
all_masks : khmer_masks
    (map_of (feature "psts" 8 ∷ feature "blws" 16 ∷ feature "abvs" 32 ∷ feature "pres" 64 ∷ feature "cfar" 128
    ∷ feature "pstf" 256 ∷ feature "abvf" 512 ∷ feature "blwf" 1024 ∷ feature "pref" 2048 ∷ []))
    ≡ 2048 ∷ 1024 ∷ 512 ∷ 256 ∷ 128 ∷ 0 ∷ 0 ∷ 0 ∷ 0 ∷ []
all_masks = refl

no_masks : khmer_masks (map_of (feature "liga" 8 ∷ [])) ≡ 0 ∷ 0 ∷ 0 ∷ 0 ∷ 0 ∷ 0 ∷ 0 ∷ 0 ∷ 0 ∷ []
no_masks = refl
