-- What Arabic keeps in the plan, computed: each mask at the place of its form.
use Rattle.std.specs.Prelude.{◌≡◌, ℕ, List, [], ◌∷◌, None, true, false, codes, refl}
use Prim.Native.String.{String}
use Rattle.shapers_base.specs.Map.{Map}
use Rattle.shapers_base.specs.declared.map.feature_map_t.{feature_map_t}
use Rattle.shapers_base.specs.declared.plan.arabic.StretchStart.TheVariants.{Centred}
use Rattle.shapers_base.specs.declared.plan.arabic.StretchStart.TheVariants as starts
use Rattle.shapers_base.specs.declared.plan.breaks.BreakFlags.TheVariants as breaks
use Rattle.shapers_base.specs.declared.plan.breaks.BreakFlags.TheVariants.{Sound}
use Rattle.shapers_arabic.specs.PlanData.{arabic_plan}

abbrev feature : String → ℕ → feature_map_t
feature tag mask = record { tag = record { 0 = codes tag }; mask = mask; stage = 0 }

abbrev map_of : List feature_map_t → Map
map_of features = record { features = features; stages = []; lookups = []; global = 0; chosen = None; found = true }

-- the features of a font in another order
all_masks : arabic_plan Centred breaks.AsCode
    (map_of (feature "init" 8 ∷ feature "med2" 16 ∷ feature "medi" 32 ∷ feature "fin3" 64 ∷ feature "fin2" 128
    ∷ feature "fina" 256 ∷ feature "isol" 512 ∷ feature "stch" 1024 ∷ []))
    ≡ record {
      mask_array = 512 ∷ 256 ∷ 128 ∷ 64 ∷ 32 ∷ 16 ∷ 8 ∷ 0 ∷ [];
      has_stch = true;
      stretch_start = Centred;
      break_flags = breaks.AsCode;
    }
all_masks = refl

no_masks : arabic_plan starts.AsCode Sound (map_of (feature "rlig" 8 ∷ []))
    ≡ record {
      mask_array = 0 ∷ 0 ∷ 0 ∷ 0 ∷ 0 ∷ 0 ∷ 0 ∷ 0 ∷ [];
      has_stch = false;
      stretch_start = starts.AsCode;
      break_flags = Sound;
    }
no_masks = refl

stretching_without_a_mask : arabic_plan starts.AsCode breaks.AsCode (map_of (feature "stch" 0 ∷ feature "isol" 8 ∷ []))
    ≡ record {
      mask_array = 8 ∷ 0 ∷ 0 ∷ 0 ∷ 0 ∷ 0 ∷ 0 ∷ 0 ∷ [];
      has_stch = false;
      stretch_start = starts.AsCode;
      break_flags = breaks.AsCode;
    }
stretching_without_a_mask = refl
