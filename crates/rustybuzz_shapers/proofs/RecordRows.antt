-- The records of the nine shapers, computed: each constant by its name, and which lists they have.
use Rattle.std.specs.Prelude.{◌≡◌, true, false, List, [], ◌∷◌, map, None, Some, codes, refl}
use Rattle.shapers_buffer.specs.declared.buffer.tag.hb_tag_t.{hb_tag_t}
use Rattle.shapers_base.specs.declared.plan.record.NormalizationMode.TheVariants as mode
use Rattle.shapers_base.specs.declared.plan.record.ZeroWidthMarks.TheVariants as zeroing
use Rattle.shapers_base.specs.Planner.{bare_pause, disabled, enabled}
use Rattle.shapers_indic.specs.Requests.{indic_list, indic_overrides}
use Rattle.shapers_khmer.specs.Requests.{khmer_list, khmer_overrides}
use Rattle.shapers_myanmar.specs.Requests.{myanmar_list}
use Rattle.shapers_universal.specs.Requests.{universal_list}
use Rattle.shapers_arabic.specs.Requests.{arabic_list}
use Rattle.shapers_hangul.specs.Requests.{hangul_list, hangul_overrides}
use Rattle.rustybuzz_shapers.specs.Records.{asked, collected, normalizes, overridden, places_marks, wants_gpos_script, zeroes_marks}
use Rattle.rustybuzz_shapers.specs.declared.shaper.hb_ot_shaper_t.{hb_ot_shaper_t}
use Rattle.rustybuzz_shapers.specs.declared.shaper.hb_ot_shaper_t.TheVariants.{Arabic, Hangul, Hebrew, Indic, Khmer, Myanmar, MyanmarZawgyi, Thai, Universal}

-- the nine shapers; each list below has a value for each of them
abbrev nine : List hb_ot_shaper_t
nine = Arabic ∷ Hangul ∷ Hebrew ∷ Indic ∷ Khmer ∷ Myanmar ∷ MyanmarZawgyi ∷ Thai ∷ Universal ∷ []

abbrev hebr : hb_tag_t
hebr = record { 0 = codes "hebr" }

normalization : map normalizes nine ≡ mode.AUTO ∷ mode.NONE ∷ mode.AUTO ∷ mode.CD ∷ mode.CD ∷ mode.CD ∷ mode.NONE
    ∷ mode.AUTO ∷ mode.CD ∷ []
normalization = refl

gpos_tags : map wants_gpos_script nine ≡ None ∷ None ∷ Some hebr ∷ None ∷ None ∷ None ∷ None ∷ None ∷ None ∷ []
gpos_tags = refl

zero_width_marks : map zeroes_marks nine ≡ zeroing.GDEF_LATE ∷ zeroing.NONE ∷ zeroing.GDEF_LATE ∷ zeroing.NONE
    ∷ zeroing.NONE ∷ zeroing.GDEF_EARLY ∷ zeroing.NONE ∷ zeroing.GDEF_LATE ∷ zeroing.GDEF_EARLY ∷ []
zero_width_marks = refl

fallback_positions : map places_marks nine ≡ true ∷ false ∷ true ∷ false ∷ false ∷ false ∷ false ∷ false ∷ false ∷ []
fallback_positions = refl

-- what they ask for, with the script Arabic and without rclt, for another script and with rclt, and after all
lists : map (λ shaper. collected shaper (Some (record { 0 = codes "Arab" })) false) nine
    ≡ Some (arabic_list true false) ∷ Some hangul_list ∷ None ∷ Some indic_list ∷ Some khmer_list ∷ Some myanmar_list
    ∷ None ∷ None ∷ Some universal_list ∷ []
lists = refl

lists_of_others : map (λ shaper. collected shaper None true) nine ≡ Some (arabic_list false true) ∷ Some hangul_list
    ∷ None ∷ Some indic_list ∷ Some khmer_list ∷ Some myanmar_list ∷ None ∷ None ∷ Some universal_list ∷ []
lists_of_others = refl

overrides : map overridden nine ≡ None ∷ Some hangul_overrides ∷ None ∷ Some indic_overrides ∷ Some khmer_overrides
    ∷ None ∷ None ∷ None ∷ None ∷ []
overrides = refl

-- requests come behind those that are there, and where there are none the planner stays
requests_behind : asked (Some (disabled "calt" ∷ bare_pause ∷ []))
    (record { script = None; requests = enabled 0 "locl" ∷ [] })
    ≡ record { script = None; requests = enabled 0 "locl" ∷ disabled "calt" ∷ bare_pause ∷ [] }
requests_behind = refl

no_requests : asked None (record { script = None; requests = enabled 0 "locl" ∷ [] })
    ≡ record { script = None; requests = enabled 0 "locl" ∷ [] }
no_requests = refl
