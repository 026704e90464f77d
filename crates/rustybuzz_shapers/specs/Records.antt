-- The records of the shapers: their constants, and what they request of the map.
use Rattle.std.specs.Prelude.{Bool, true, false, List, Option, None, Some, codes}
use Rattle.std.specs.Option.{option_map_or}
use Rattle.shapers_base.specs.Planner.{Planner, with_requests}
use Rattle.shapers_buffer.specs.declared.buffer.tag.hb_tag_t.{hb_tag_t}
use Rattle.shapers_buffer.specs.declared.buffer.tag.Script.{Script}
use Rattle.shapers_base.specs.declared.plan.planner.Request.{Request}
use Rattle.shapers_base.specs.declared.plan.record.NormalizationMode.{NormalizationMode}
use Rattle.shapers_base.specs.declared.plan.record.NormalizationMode.TheVariants as mode
use Rattle.shapers_base.specs.declared.plan.record.ZeroWidthMarks.{ZeroWidthMarks}
use Rattle.shapers_base.specs.declared.plan.record.ZeroWidthMarks.TheVariants as zeroing
use Rattle.shapers_arabic.specs.Requests.{arabic_list, is_arabic}
use Rattle.shapers_hangul.specs.Requests.{hangul_list, hangul_overrides}
use Rattle.shapers_khmer.specs.Requests.{khmer_list, khmer_overrides}
use Rattle.shapers_myanmar.specs.Requests.{myanmar_list}
use Rattle.shapers_universal.specs.Requests.{universal_list}
use Rattle.shapers_indic.specs.Requests.{indic_list, indic_overrides}
use Rattle.rustybuzz_shapers.specs.declared.shaper.hb_ot_shaper_t.{hb_ot_shaper_t}
use Rattle.rustybuzz_shapers.specs.declared.shaper.hb_ot_shaper_t.TheVariants.{Arabic, Hangul, Hebrew, Indic, Khmer, Myanmar, MyanmarZawgyi, Thai, Universal}

-- how the text is normalized
abbrev pub normalizes : hb_ot_shaper_t → NormalizationMode
normalizes Arabic = mode.AUTO
normalizes Hebrew = mode.AUTO
normalizes Thai = mode.AUTO
normalizes Hangul = mode.NONE
normalizes MyanmarZawgyi = mode.NONE
normalizes _ = mode.CD

-- the script that GPOS has to have for its marks to be trusted
abbrev pub wants_gpos_script : hb_ot_shaper_t → Option hb_tag_t
wants_gpos_script Hebrew = Some (record { 0 = codes "hebr" })
wants_gpos_script _ = None

-- when the advances of marks become zero
abbrev pub zeroes_marks : hb_ot_shaper_t → ZeroWidthMarks
zeroes_marks Arabic = zeroing.GDEF_LATE
zeroes_marks Hebrew = zeroing.GDEF_LATE
zeroes_marks Thai = zeroing.GDEF_LATE
zeroes_marks Myanmar = zeroing.GDEF_EARLY
zeroes_marks Universal = zeroing.GDEF_EARLY
zeroes_marks _ = zeroing.NONE

-- whether marks are placed without the font's help where it gives none
abbrev pub places_marks : hb_ot_shaper_t → Bool
places_marks Arabic = true
places_marks Hebrew = true
places_marks _ = false

-- what the shaper requests of the map, if anything: for a script, and a font with rclt or without
abbrev pub collected : hb_ot_shaper_t → Option Script → Bool → Option (List Request)
collected Arabic s has_rclt = Some (arabic_list (is_arabic s) has_rclt)
collected Hangul s has_rclt = Some hangul_list
collected Indic s has_rclt = Some indic_list
collected Khmer s has_rclt = Some khmer_list
collected Myanmar s has_rclt = Some myanmar_list
collected Universal s has_rclt = Some universal_list
collected _ s has_rclt = None

-- what it requests after the lists of all
abbrev pub overridden : hb_ot_shaper_t → Option (List Request)
overridden Hangul = Some hangul_overrides
overridden Indic = Some indic_overrides
overridden Khmer = Some khmer_overrides
overridden _ = None

-- the planner after these requests, if there are any
abbrev pub asked : Option (List Request) → Planner → Planner
asked requests p = option_map_or (λ rs. with_requests rs p) requests p
