-- The table, cell by cell, against the joining rule.
use Rattle.std.proofs.Common.{◌≡◌, Bool, eqb, not, [], ◌∷◌, Option, None, Some, refl}
use Rattle.std.specs.List.{list_any}
use Rattle.shapers_base.specs.declared.plan.joining.hb_arabic_joining_type_t.{hb_arabic_joining_type_t}
use Rattle.shapers_base.specs.declared.plan.joining.hb_arabic_joining_type_t.TheVariants.{U, L, R, D, GroupAlaph, GroupDalathRish}
use Rattle.shapers_arabic.specs.Joining.{act}
use Rattle.shapers_arabic.specs.JoiningWalk.{cell, state_of, kept_or, waits}
use Rattle.shapers_arabic.specs.declared.ot_shaper_arabic.arabic_action_t.TheConstants.{NONE}

-- the form that the next letter gives
pub gives_previous : (before : Option hb_arabic_joining_type_t) (own t : hb_arabic_joining_type_t)
    → kept_or (cell (state_of before own) t).0 (act before own None) ≡ act before own (Some t)
gives_previous before U U = refl
gives_previous before U _ = refl
gives_previous before L U = refl
gives_previous before L _ = refl
gives_previous before R U = refl
gives_previous before R _ = refl
gives_previous None D U = refl
gives_previous None D _ = refl
gives_previous (Some L) D U = refl
gives_previous (Some L) D _ = refl
gives_previous (Some _) D U = refl
gives_previous (Some _) D _ = refl
gives_previous None GroupAlaph U = refl
gives_previous None GroupAlaph _ = refl
gives_previous (Some L) GroupAlaph U = refl
gives_previous (Some L) GroupAlaph _ = refl
gives_previous (Some _) GroupAlaph U = refl
gives_previous (Some _) GroupAlaph _ = refl
gives_previous before _ U = refl
gives_previous before _ _ = refl

-- a letter's own form, as long as none follows
pub gives_own : (before : Option hb_arabic_joining_type_t) (own t : hb_arabic_joining_type_t)
    → (cell (state_of before own) t).1 ≡ act (Some own) t None
gives_own before U U = refl
gives_own before U _ = refl
gives_own before L U = refl
gives_own before L _ = refl
gives_own before R U = refl
gives_own before R _ = refl
gives_own None D U = refl
gives_own None D _ = refl
gives_own (Some L) D U = refl
gives_own (Some L) D _ = refl
gives_own (Some _) D U = refl
gives_own (Some _) D _ = refl
gives_own None GroupAlaph U = refl
gives_own None GroupAlaph _ = refl
gives_own (Some L) GroupAlaph U = refl
gives_own (Some L) GroupAlaph _ = refl
gives_own (Some _) GroupAlaph U = refl
gives_own (Some _) GroupAlaph _ = refl
gives_own before _ U = refl
gives_own before _ _ = refl

-- the state behind a letter
pub gives_state : (before : Option hb_arabic_joining_type_t) (own t : hb_arabic_joining_type_t)
    → (cell (state_of before own) t).2 ≡ state_of (Some own) t
gives_state before U U = refl
gives_state before U _ = refl
gives_state before L U = refl
gives_state before L _ = refl
gives_state before R U = refl
gives_state before R _ = refl
gives_state None D U = refl
gives_state None D _ = refl
gives_state (Some L) D U = refl
gives_state (Some L) D _ = refl
gives_state (Some _) D U = refl
gives_state (Some _) D _ = refl
gives_state None GroupAlaph U = refl
gives_state None GroupAlaph _ = refl
gives_state (Some L) GroupAlaph U = refl
gives_state (Some L) GroupAlaph _ = refl
gives_state (Some _) GroupAlaph U = refl
gives_state (Some _) GroupAlaph _ = refl
gives_state before _ U = refl
gives_state before _ _ = refl

-- the next letter gives a form exactly where it changes the form of the letter before it
pub gives_change : (before : Option hb_arabic_joining_type_t) (own t : hb_arabic_joining_type_t)
    → eqb (cell (state_of before own) t).0 NONE ≡ eqb (act before own (Some t)) (act before own None)
gives_change before U U = refl
gives_change before U _ = refl
gives_change before L U = refl
gives_change before L _ = refl
gives_change None R U = refl
gives_change None R _ = refl
gives_change (Some L) R U = refl
gives_change (Some L) R _ = refl
gives_change (Some _) R U = refl
gives_change (Some _) R _ = refl
gives_change None D U = refl
gives_change None D _ = refl
gives_change (Some L) D U = refl
gives_change (Some L) D _ = refl
gives_change (Some _) D U = refl
gives_change (Some _) D _ = refl
gives_change None GroupAlaph U = refl
gives_change None GroupAlaph _ = refl
gives_change (Some L) GroupAlaph U = refl
gives_change (Some L) GroupAlaph _ = refl
gives_change (Some _) GroupAlaph U = refl
gives_change (Some _) GroupAlaph _ = refl
gives_change None GroupDalathRish U = refl
gives_change None GroupDalathRish _ = refl
gives_change (Some L) GroupDalathRish U = refl
gives_change (Some L) GroupDalathRish _ = refl
gives_change (Some _) GroupDalathRish U = refl
gives_change (Some _) GroupDalathRish _ = refl
gives_change before _ U = refl
gives_change before _ _ = refl

-- whether some letter changes the form of one behind this type
abbrev can_change_behind : Option hb_arabic_joining_type_t → hb_arabic_joining_type_t → Bool
can_change_behind before own =
    list_any (λ t. not (eqb (act before own (Some t)) (act before own None)))
    (U ∷ L ∷ R ∷ D ∷ GroupAlaph ∷ GroupDalathRish ∷ [])

-- a state waits for the next letter exactly where some letter changes the form of the one that left it
pub waits_for_change : (before : Option hb_arabic_joining_type_t) (own : hb_arabic_joining_type_t)
    → waits (state_of before own) ≡ can_change_behind before own
waits_for_change before U = refl
waits_for_change before L = refl
waits_for_change None R = refl
waits_for_change (Some L) R = refl
waits_for_change (Some _) R = refl
waits_for_change None D = refl
waits_for_change (Some L) D = refl
waits_for_change (Some _) D = refl
waits_for_change None GroupAlaph = refl
waits_for_change (Some L) GroupAlaph = refl
waits_for_change (Some _) GroupAlaph = refl
waits_for_change None GroupDalathRish = refl
waits_for_change (Some L) GroupDalathRish = refl
waits_for_change (Some _) GroupDalathRish = refl
waits_for_change before _ = refl
