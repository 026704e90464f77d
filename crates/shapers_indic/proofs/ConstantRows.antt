-- The places of the features of Indic, by their numbers.
use Rattle.std.specs.Prelude.{◌≡◌, [], ◌∷◌, refl}
use Rattle.shapers_indic.specs.declared.ot_shaper_indic.indic_feature.TheConstants as feature

indic_feature : feature.NUKT ∷ feature.AKHN ∷ feature.RPHF ∷ feature.RKRF ∷ feature.PREF ∷ feature.BLWF ∷ feature.ABVF
    ∷ feature.HALF ∷ feature.PSTF ∷ feature.VATU ∷ feature.CJCT ∷ feature.INIT ∷ feature.PRES ∷ feature.ABVS
    ∷ feature.BLWS ∷ feature.PSTS ∷ feature.HALN ∷ [] ≡ 0 ∷ 1 ∷ 2 ∷ 3 ∷ 4 ∷ 5 ∷ 6 ∷ 7 ∷ 8 ∷ 9 ∷ 10 ∷ 11 ∷ 12 ∷ 13 ∷ 14
    ∷ 15 ∷ 16 ∷ []
indic_feature = refl
