-- What Khmer keeps in the plan.
use Prim.Native.String.{String}
use Rattle.std.specs.Prelude.{ℕ, Bool, true, false, List, [], ◌∷◌, ◌++◌, map, codes, replicate}
use Rattle.shapers_base.specs.declared.plan.PlanData.{PlanData}
use Rattle.shapers_base.specs.declared.plan.PlanData.TheVariants.{Khmer}
use Rattle.shapers_base.specs.Map.{Map, mask_of}

-- the basic features, which some glyphs of a syllable get
abbrev pub khmer_basic_features : List String
khmer_basic_features = "pref" ∷ "blwf" ∷ "abvf" ∷ "pstf" ∷ "cfar" ∷ []

-- the masks that the plan keeps: the basic features', and none for the four of the whole text
abbrev pub khmer_masks : Map → List ℕ
khmer_masks m =
    map (λ tag. mask_of (record { 0 = codes tag }) m) khmer_basic_features ++ replicate 4 0

-- whether these are Khmer's plan data
abbrev pub is_khmer_data : PlanData → Bool
is_khmer_data (Khmer kept) = true
is_khmer_data _ = false
