-- The bits of a glyph's mask that features get (HarfBuzz, hb-ot-map.cc).
use Rattle.std.specs.Prelude.{ℕ, min, ◌+◌, ◌-◌, ◌*◌, ◌%◌, ◌^◌, ◌==◌, nat_lt, Bool, ◌&&◌, ◌||◌, List, [], ◌∷◌, fold, is_some, Option, None, bit_and, bit_or, if◌then◌else◌}
use Rattle.std.specs.Int.{leading_zeros, w32}
use Rattle.shapers_base.specs.declared.map.TableIndex.{TableIndex}
use Rattle.shapers_base.specs.declared.map.TableIndex.TheVariants.{GSUB, GPOS}
use Rattle.shapers_buffer.specs.declared.buffer.tag.hb_tag_t.{hb_tag_t}
use Rattle.shapers_plan.specs.FontFeatures.{FontTables}
use Rattle.shapers_plan.specs.Requests.{has_feature_flag}
use Rattle.shapers_plan.specs.declared.ot_map.masks.TheConstants.{F_GLOBAL_SEARCH}
use Rattle.shapers_plan.specs.declared.ot_map.masks.MappedFeature.{MappedFeature}
use Rattle.shapers_plan.specs.declared.ot_map.requests.FeatureInfo.{FeatureInfo}

-- the three lowest bits are the glyph flags, the next is left free, and the highest is of the
-- features that hold for the whole text
abbrev pub first_bit : ℕ
first_bit = 4

abbrev pub global_bit : ℕ
global_bit = 31

-- no feature gets more bits
abbrev pub max_bits : ℕ
max_bits = 8

-- whether a feature is on for the whole text, and has no other value anywhere
abbrev pub is_on_everywhere : FeatureInfo → Bool
is_on_everywhere info = info.is_global && info.max_value == 1

-- how many bits of its own a feature takes: as many as its greatest value has
abbrev pub bit_count : FeatureInfo → ℕ
bit_count info = if is_on_everywhere info then 0
    else min max_bits (32 - leading_zeros w32 info.max_value)

-- whether the chosen script has a feature
abbrev pub in_script : FontTables → hb_tag_t → Bool
in_script tables tag = is_some (tables.lookups GSUB tag) || is_some (tables.lookups GPOS tag)

-- whether some script has a feature
abbrev pub in_any_script : FontTables → hb_tag_t → Bool
in_any_script tables tag = is_some (tables.anywhere GSUB tag) || is_some (tables.anywhere GPOS tag)

-- the lookups of a feature: those of the chosen script, or if the request says so of any script
abbrev pub lookups_of : FontTables → TableIndex → hb_tag_t → ℕ → Option (List ℕ)
lookups_of tables table tag flags =
    if in_script tables tag then tables.lookups table tag
    else if has_feature_flag flags F_GLOBAL_SEARCH then tables.anywhere table tag
    else None

-- whether the font has a feature, or something stands in for it
abbrev pub is_served : FontTables → FeatureInfo → Bool
is_served tables info = is_some (lookups_of tables GSUB info.tag info.flags)
    || is_some (lookups_of tables GPOS info.tag info.flags) || info.has_fallback

-- whether a feature is on, its bits fit below the highest from this one on, and it is served
abbrev pub is_mapped : FontTables → ℕ → FeatureInfo → Bool
is_mapped tables next info = nat_lt 0 info.max_value && nat_lt (next + bit_count info) global_bit
    && is_served tables info

-- a feature with its bits, from this one on
abbrev pub feature_at_bit : ℕ → FeatureInfo → MappedFeature
feature_at_bit next info = record {
  tag = info.tag;
  flags = info.flags;
  mask = if is_on_everywhere info then 2 ^ global_bit else 2 ^ (next + bit_count info) - 2 ^ next;
  one_mask = if is_on_everywhere info then 2 ^ global_bit else 2 ^ next;
  default_value = info.default_value;
  stage = info.stage;
}

-- the features that are mapped, each with the bits behind those of the one before it
abbrev pub mapped_from : FontTables → ℕ → List FeatureInfo → List MappedFeature
mapped_from tables next [] = []
mapped_from tables next (info ∷ infos) =
    if is_mapped tables next info
    then feature_at_bit next info ∷ mapped_from tables (next + bit_count info) infos
    else mapped_from tables next infos

abbrev pub mapped : FontTables → List FeatureInfo → List MappedFeature
mapped tables infos = mapped_from tables first_bit infos

-- a value in the bits of a feature
abbrev pub value_in : MappedFeature → ℕ → ℕ
value_in feature value = bit_and (value * feature.one_mask % 2 ^ 32) feature.mask

-- the mask of a glyph that no range of the user's reaches
abbrev pub global_mask : List MappedFeature → ℕ
global_mask features =
    fold (λ mask feature. bit_or mask (value_in feature feature.default_value)) (2 ^ global_bit)
    features
