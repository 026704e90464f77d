-- What Indic requests of the map.
use Prim.Native.String.{String}
use Rattle.std.specs.Prelude.{List, [], ◌∷◌, ◌++◌, bit_or}
use Rattle.shapers_base.specs.declared.map.TheConstants.{F_MANUAL_JOINERS, F_PER_SYLLABLE}
use Rattle.shapers_base.specs.declared.plan.pause.Pause.TheVariants.{SetupSyllablesIndic, InitialReordering, FinalReordering, SyllabicClearVar}
use Rattle.shapers_base.specs.declared.plan.planner.Request.{Request}
use Rattle.shapers_base.specs.Planner.{added, enabled, disabled, pause_for, each_paused}

-- a feature within syllables that sees both joiners: on where masks say so, or in the whole text
abbrev pub by_mask : String → Request
by_mask tag = added (bit_or F_MANUAL_JOINERS F_PER_SYLLABLE) tag

abbrev pub everywhere : String → Request
everywhere tag = enabled (bit_or F_MANUAL_JOINERS F_PER_SYLLABLE) tag

-- the features between the two reorderings, and those after them
abbrev pub indic_basic_features : List Request
indic_basic_features = everywhere "nukt" ∷ everywhere "akhn" ∷ by_mask "rphf" ∷ everywhere "rkrf"
    ∷ by_mask "pref" ∷ by_mask "blwf" ∷ by_mask "abvf" ∷ by_mask "half" ∷ by_mask "pstf"
    ∷ everywhere "vatu" ∷ everywhere "cjct" ∷ []

abbrev pub other_features : List Request
other_features = by_mask "init" ∷ everywhere "pres" ∷ everywhere "abvs" ∷ everywhere "blws"
    ∷ everywhere "psts" ∷ everywhere "haln" ∷ []

-- the whole list
abbrev pub indic_list : List Request
indic_list = pause_for SetupSyllablesIndic ∷ enabled F_PER_SYLLABLE "locl"
    ∷ enabled F_PER_SYLLABLE "ccmp" ∷ pause_for InitialReordering ∷ each_paused indic_basic_features
    ++ pause_for FinalReordering ∷ other_features

-- what comes after the lists of all
abbrev pub indic_overrides : List Request
indic_overrides = disabled "liga" ∷ pause_for SyllabicClearVar ∷ []
