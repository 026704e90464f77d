-- Requests for features, joined by tag (HarfBuzz, hb-ot-map.cc).
use Rattle.std.specs.Prelude.{ℕ, min, max, ◌+◌, ◌==◌, Bool, not, ◌||◌, List, [], ◌∷◌, bit_and, if◌then◌else◌}
use Rattle.std.specs.Int.{from_be_bytes, w32}
use Rattle.shapers_buffer.specs.declared.buffer.tag.hb_tag_t.{hb_tag_t}
use Rattle.shapers_base.specs.declared.map.TheConstants.{F_GLOBAL, F_HAS_FALLBACK}
use Rattle.shapers_base.specs.declared.plan.planner.Request.{Request}
use Rattle.shapers_base.specs.declared.plan.planner.Request.TheVariants.{Feature, Pause}
use Rattle.shapers_plan.specs.declared.ot_map.requests.FeatureInfo.{FeatureInfo}
use Rattle.shapers_plan.specs.Ordered.{put_all_in_order}

-- whether a flag is among these
abbrev pub has_feature_flag : ℕ → ℕ → Bool
has_feature_flag flags flag = not (bit_and flags flag == 0)

-- a request for a feature, behind so many pauses
abbrev pub info_of : ℕ → hb_tag_t → ℕ → ℕ → FeatureInfo
info_of stage tag flags value = record {
  tag = tag;
  flags = flags;
  is_global = has_feature_flag flags F_GLOBAL;
  has_fallback = has_feature_flag flags F_HAS_FALLBACK;
  max_value = value;
  default_value = if has_feature_flag flags F_GLOBAL then value else 0;
  stage = stage;
}

-- the features of a list of requests, each with the number of pauses before it, after so many
abbrev pub infos_after : ℕ → List Request → List FeatureInfo
infos_after stage [] = []
infos_after stage (Feature tag flags value ∷ rs) =
    info_of stage tag flags value ∷ infos_after stage rs
infos_after stage (Pause p ∷ rs) = infos_after (stage + 1) rs

-- tags are in order as big-endian numbers
abbrev pub tag_number : FeatureInfo → ℕ
tag_number info = from_be_bytes w32 info.tag.0

-- two requests for a feature: a later one for the whole text overrides the values; with another one
-- the greater value counts, and the rest of the text keeps its own; the first stage and the first
-- flags count, and any fallback
abbrev pub joined_infos : FeatureInfo → FeatureInfo → FeatureInfo
joined_infos earlier later = record earlier {
  is_global = later.is_global;
  has_fallback = earlier.has_fallback || later.has_fallback;
  max_value = if later.is_global then later.max_value else max earlier.max_value later.max_value;
  default_value = if later.is_global then later.default_value else earlier.default_value;
  stage = min earlier.stage later.stage;
}

-- the features that are requested, one for each tag, in the order of the tags
abbrev pub joined_by_tag : List Request → List FeatureInfo
joined_by_tag rs = put_all_in_order tag_number joined_infos [] (infos_after 0 rs)
