-- What Myanmar requests of the map.
use Rattle.std.specs.Prelude.{List, [], ◌∷◌, ◌++◌, map, bit_or}
use Rattle.shapers_base.specs.declared.map.TheConstants.{F_MANUAL_ZWJ, F_PER_SYLLABLE}
use Rattle.shapers_base.specs.declared.plan.pause.Pause.TheVariants.{SetupSyllablesMyanmar, ReorderMyanmar, SyllabicClearVar}
use Rattle.shapers_base.specs.declared.plan.planner.Request.{Request}
use Rattle.shapers_base.specs.Planner.{enabled, pause_for, each_paused}

-- its features, in order (OpenType)
abbrev pub myanmar_list : List Request
myanmar_list =
    pause_for SetupSyllablesMyanmar ∷ enabled F_PER_SYLLABLE "locl" ∷ enabled F_PER_SYLLABLE "ccmp"
    ∷ pause_for ReorderMyanmar ∷ []
    ++ each_paused (map (enabled (bit_or F_MANUAL_ZWJ F_PER_SYLLABLE))
    ("rphf" ∷ "pref" ∷ "blwf" ∷ "pstf" ∷ []))
    ++ pause_for SyllabicClearVar
    ∷ map (enabled F_MANUAL_ZWJ) ("pres" ∷ "abvs" ∷ "blws" ∷ "psts" ∷ [])
