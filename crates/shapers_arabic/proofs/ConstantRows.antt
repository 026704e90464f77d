-- The actions of Arabic, by their numbers.
use Rattle.std.specs.Prelude.{◌≡◌, [], ◌∷◌, refl}
use Rattle.shapers_arabic.specs.declared.ot_shaper_arabic.arabic_action_t.TheConstants as action

arabic_action_t : action.ISOL ∷ action.FINA ∷ action.FIN2 ∷ action.FIN3 ∷ action.MEDI ∷ action.MED2 ∷ action.INIT
    ∷ action.NONE ∷ action.STRETCHING_FIXED ∷ action.STRETCHING_REPEATING ∷ [] ≡ 0 ∷ 1 ∷ 2 ∷ 3 ∷ 4 ∷ 5 ∷ 6 ∷ 7 ∷ 8 ∷ 9
    ∷ []
arabic_action_t = refl
