-- What the universal shaper requests of the map.
use Rattle.std.specs.Prelude.{List, [], ◌∷◌, ◌++◌, map, bit_or}
use Rattle.shapers_base.specs.declared.map.TheConstants.{F_NONE, F_MANUAL_ZWJ, F_PER_SYLLABLE}
use Rattle.shapers_base.specs.declared.plan.pause.Pause.TheVariants.{SetupSyllablesUse, ReorderUse, RecordRphf, RecordPref, SyllabicClearVar, ClearSubstitutionFlags}
use Rattle.shapers_base.specs.declared.plan.planner.Request.{Request}
use Rattle.shapers_base.specs.Planner.{added, enabled, bare_pause, pause_for}

-- its features, in order: those before its reordering, and those after
abbrev pub universal_list : List Request
universal_list =
    let flags = bit_or F_MANUAL_ZWJ F_PER_SYLLABLE in
    pause_for SetupSyllablesUse ∷ map (enabled F_PER_SYLLABLE) ("locl" ∷ "ccmp" ∷ "nukt" ∷ [])
    ++ enabled flags "akhn" ∷ pause_for ClearSubstitutionFlags
    ∷ added flags "rphf" ∷ pause_for RecordRphf ∷ pause_for ClearSubstitutionFlags
    ∷ enabled flags "pref" ∷ pause_for RecordPref
    ∷ map (enabled flags) ("rkrf" ∷ "abvf" ∷ "blwf" ∷ "half" ∷ "pstf" ∷ "vatu" ∷ "cjct" ∷ [])
    ++ pause_for ReorderUse ∷ pause_for SyllabicClearVar
    ∷ map (added F_NONE) ("isol" ∷ "init" ∷ "medi" ∷ "fina" ∷ [])
    ++ bare_pause ∷ map (enabled F_MANUAL_ZWJ) ("abvs" ∷ "blws" ∷ "haln" ∷ "pres" ∷ "psts" ∷ [])
