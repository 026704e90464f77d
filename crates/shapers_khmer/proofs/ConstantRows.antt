-- The places of the basic features of Khmer in its masks, by their numbers.
use Rattle.std.specs.Prelude.{◌≡◌, [], ◌∷◌, refl}
use Rattle.shapers_khmer.specs.declared.ot_shaper_khmer.khmer_feature.TheConstants as feature

khmer_feature : feature.PREF ∷ feature.BLWF ∷ feature.ABVF ∷ feature.PSTF ∷ feature.CFAR ∷ [] ≡ 0 ∷ 1 ∷ 2 ∷ 3 ∷ 4 ∷ []
khmer_feature = refl
