-- Pauses and joining types by their numbers.
use Rattle.std.specs.Prelude.{ℕ, List, [], ◌∷◌}
use Rattle.shapers_base.specs.declared.plan.joining.hb_arabic_joining_type_t.{hb_arabic_joining_type_t}
use Rattle.shapers_base.specs.declared.plan.joining.hb_arabic_joining_type_t.TheVariants as joins
use Rattle.shapers_base.specs.declared.plan.pause.Pause.{Pause}
use Rattle.shapers_base.specs.declared.plan.pause.Pause.TheVariants.{SetupSyllablesIndic, SetupSyllablesKhmer, SetupSyllablesMyanmar, SetupSyllablesUse, InitialReordering, ReorderKhmer, ReorderMyanmar, ReorderUse, FinalReordering, RecordStch, RecordRphf, RecordPref, SyllabicClearVar, ClearSubstitutionFlags, ArabicFallbackShape}

-- the pauses, each at the place of its number
abbrev pub pauses : List Pause
pauses =
    SetupSyllablesIndic ∷ SetupSyllablesKhmer ∷ SetupSyllablesMyanmar ∷ SetupSyllablesUse
    ∷ InitialReordering ∷ ReorderKhmer ∷ ReorderMyanmar ∷ ReorderUse ∷ FinalReordering
    ∷ RecordStch ∷ RecordRphf ∷ RecordPref ∷ SyllabicClearVar ∷ ClearSubstitutionFlags
    ∷ ArabicFallbackShape ∷ []

-- the joining types, and the number of each in the joining tables, which have no 6
abbrev pub joining_types : List hb_arabic_joining_type_t
joining_types =
    joins.U ∷ joins.L ∷ joins.R ∷ joins.D ∷ joins.GroupAlaph ∷ joins.GroupDalathRish ∷ joins.T
    ∷ joins.X ∷ []

abbrev pub joining_number : hb_arabic_joining_type_t → ℕ
joining_number joins.U = 0
joining_number joins.L = 1
joining_number joins.R = 2
joining_number joins.D = 3
joining_number joins.GroupAlaph = 4
joining_number joins.GroupDalathRish = 5
joining_number joins.T = 7
joining_number joins.X = 8
