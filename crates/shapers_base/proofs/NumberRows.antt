-- Every number of a pause or a joining type, and one past each end.
use Rattle.std.specs.Prelude.{◌≡◌, ◌==◌, [], ◌∷◌, find, map, slice_get, None, Some, refl}
use Rattle.shapers_base.specs.Numbers.{joining_number, joining_types, pauses}
use Rattle.shapers_base.specs.declared.plan.joining.TheConstants.hb_arabic_joining_type_t as all_joining_types
use Rattle.shapers_base.specs.declared.plan.joining.hb_arabic_joining_type_t.TheVariants as joins
use Rattle.shapers_base.specs.declared.plan.pause.Pause.TheVariants as pause
use Rattle.shapers_base.specs.declared.plan.pause.TheConstants.Pause as all_pauses

-- pauses, 0 to 14
first_pauses : map (slice_get pauses) (0 ∷ 1 ∷ 2 ∷ 3 ∷ 4 ∷ 5 ∷ 6 ∷ 7 ∷ []) ≡ Some pause.SetupSyllablesIndic
    ∷ Some pause.SetupSyllablesKhmer ∷ Some pause.SetupSyllablesMyanmar ∷ Some pause.SetupSyllablesUse
    ∷ Some pause.InitialReordering ∷ Some pause.ReorderKhmer ∷ Some pause.ReorderMyanmar ∷ Some pause.ReorderUse ∷ []
first_pauses = refl

last_pauses : map (slice_get pauses) (8 ∷ 9 ∷ 10 ∷ 11 ∷ 12 ∷ 13 ∷ 14 ∷ 15 ∷ []) ≡ Some pause.FinalReordering
    ∷ Some pause.RecordStch ∷ Some pause.RecordRphf ∷ Some pause.RecordPref ∷ Some pause.SyllabicClearVar
    ∷ Some pause.ClearSubstitutionFlags ∷ Some pause.ArabicFallbackShape ∷ None ∷ []
last_pauses = refl

-- joining types, 0 to 8 without 6
joining_numbers : map joining_number (joins.U ∷ joins.L ∷ joins.R ∷ joins.D ∷ joins.GroupAlaph ∷ joins.GroupDalathRish
    ∷ joins.T ∷ joins.X ∷ []) ≡ 0 ∷ 1 ∷ 2 ∷ 3 ∷ 4 ∷ 5 ∷ 7 ∷ 8 ∷ []
joining_numbers = refl

joining_types_by_number : map (λ n. find (λ t. joining_number t == n) joining_types) (0 ∷ 1 ∷ 2 ∷ 3 ∷ 4 ∷ 5 ∷ 6 ∷ 7 ∷ 8
    ∷ 9 ∷ []) ≡ Some joins.U ∷ Some joins.L ∷ Some joins.R ∷ Some joins.D ∷ Some joins.GroupAlaph
    ∷ Some joins.GroupDalathRish ∷ None ∷ Some joins.T ∷ Some joins.X ∷ None ∷ []
joining_types_by_number = refl

-- the lists that the program has are these
ALL_pauses : all_pauses.ALL ≡ pauses
ALL_pauses = refl

ALL_joining_types : all_joining_types.ALL ≡ joining_types
ALL_joining_types = refl
