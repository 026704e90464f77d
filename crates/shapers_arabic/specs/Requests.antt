-- What Arabic requests of the map.
use Rattle.std.specs.Prelude.{ℕ, Bool, List, [], ◌∷◌, ◌++◌, map, bit_or, Option, None, Some, codes, false, nat_eq, if◌then◌else◌}
use Rattle.std.specs.Cmp.Lexicographic.{pointwise}
use Rattle.shapers_buffer.specs.declared.buffer.tag.hb_tag_t.{hb_tag_t}
use Rattle.shapers_buffer.specs.declared.buffer.tag.Script.{Script}
use Rattle.shapers_base.specs.declared.map.TheConstants.{F_NONE, F_HAS_FALLBACK, F_MANUAL_ZWJ}
use Rattle.shapers_base.specs.declared.plan.pause.Pause.TheVariants.{RecordStch, ArabicFallbackShape}
use Rattle.shapers_base.specs.declared.plan.planner.Request.{Request}
use Rattle.shapers_base.specs.Planner.{added, enabled, bare_pause, pause_for, each_paused}

-- whether the script is Arabic itself
abbrev pub is_arabic : Option Script → Bool
is_arabic None = false
is_arabic (Some s) = pointwise nat_eq s.0 (codes "Arab")

-- the tag of the required contextual forms
abbrev pub rclt : hb_tag_t
rclt = record { 0 = codes "rclt" }

-- the joining forms, each followed by a pause; those of the second and third kind have no fallback
abbrev pub joining_list : ℕ → List Request
joining_list flags = each_paused (added flags "isol" ∷ added flags "fina"
    ∷ added F_MANUAL_ZWJ "fin2" ∷ added F_MANUAL_ZWJ "fin3" ∷ added flags "medi"
    ∷ added F_MANUAL_ZWJ "med2" ∷ added flags "init" ∷ [])

-- Arabic: a fallback and its pause only with the script Arabic; without rclt a pause after calt
abbrev pub arabic_list : Bool → Bool → List Request
arabic_list arabic has_rclt =
    enabled F_NONE "stch" ∷ pause_for RecordStch ∷ enabled F_MANUAL_ZWJ "ccmp"
    ∷ enabled F_MANUAL_ZWJ "locl" ∷ bare_pause
    ∷ joining_list (bit_or F_MANUAL_ZWJ (if arabic then F_HAS_FALLBACK else F_NONE))
    ++ enabled (bit_or F_MANUAL_ZWJ F_HAS_FALLBACK) "rlig"
    ∷ (if arabic then pause_for ArabicFallbackShape ∷ [] else [])
    ++ enabled F_MANUAL_ZWJ "calt" ∷ (if has_rclt then [] else bare_pause ∷ [])
    ++ map (enabled F_MANUAL_ZWJ) ("liga" ∷ "clig" ∷ "mset" ∷ [])
