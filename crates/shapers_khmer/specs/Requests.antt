-- What Khmer requests of the map.
use Rattle.std.specs.Prelude.{List, [], ◌∷◌, ◌++◌, map, bit_or}
use Rattle.shapers_base.specs.declared.map.TheConstants.{F_GLOBAL, F_NONE, F_MANUAL_JOINERS, F_PER_SYLLABLE}
use Rattle.shapers_base.specs.declared.plan.pause.Pause.TheVariants.{SetupSyllablesKhmer, ReorderKhmer, SyllabicClearVar}
use Rattle.shapers_base.specs.declared.plan.planner.Request.{Request}
use Rattle.shapers_base.specs.Planner.{added, enabled, disabled, pause_for}

-- its features, in order (OpenType)
abbrev pub khmer_list : List Request
khmer_list =
    pause_for SetupSyllablesKhmer ∷ pause_for ReorderKhmer ∷ enabled F_PER_SYLLABLE "locl"
    ∷ enabled F_PER_SYLLABLE "ccmp" ∷ []
    ++ map (added (bit_or F_MANUAL_JOINERS F_PER_SYLLABLE))
    ("pref" ∷ "blwf" ∷ "abvf" ∷ "pstf" ∷ "cfar" ∷ [])
    ++ pause_for SyllabicClearVar
    ∷ map (added (bit_or F_GLOBAL F_MANUAL_JOINERS)) ("pres" ∷ "abvs" ∷ "blws" ∷ "psts" ∷ [])

-- what Khmer requests after the lists of all
abbrev pub khmer_overrides : List Request
khmer_overrides = enabled F_NONE "clig" ∷ disabled "liga" ∷ []
