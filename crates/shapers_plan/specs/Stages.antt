-- The lookups of a font in stages (HarfBuzz, hb-ot-map.cc).
use Rattle.std.specs.Prelude.{ℕ, ◌+◌, ◌==◌, nat_lt, Bool, true, false, not, ◌&&◌, List, [], ◌∷◌, ◌++◌, find, filter, length, map, Option, None, Some, unwrap_or, bit_or, if◌then◌else◌}
use Rattle.std.specs.List.{flat_map, range_with_len}
use Rattle.std.specs.Option.{option_map_or}
use Rattle.shapers_base.specs.declared.map.TableIndex.{TableIndex}
use Rattle.shapers_base.specs.declared.map.TableIndex.TheVariants.{GSUB}
use Rattle.shapers_base.specs.declared.map.TheConstants.{F_MANUAL_ZWNJ, F_MANUAL_ZWJ, F_PER_SYLLABLE}
use Rattle.shapers_base.specs.declared.plan.pause.Pause as pauses
use Rattle.shapers_base.specs.declared.plan.planner.Request.{Request}
use Rattle.shapers_base.specs.declared.plan.planner.Request.TheVariants.{Feature, Pause}
use Rattle.shapers_base.specs.Map.{same_tag}
use Rattle.shapers_buffer.specs.declared.buffer.tag.hb_tag_t.{hb_tag_t}
use Rattle.shapers_plan.specs.FontFeatures.{FontTables}
use Rattle.shapers_plan.specs.Masks.{lookups_of}
use Rattle.shapers_plan.specs.Ordered.{put_all_in_order}
use Rattle.shapers_plan.specs.Requests.{has_feature_flag}
use Rattle.shapers_plan.specs.declared.ot_map.lookups.Stage.{Stage}
use Rattle.shapers_plan.specs.declared.ot_map.lookups.StageLookup.{StageLookup}
use Rattle.shapers_plan.specs.declared.ot_map.masks.MappedFeature.{MappedFeature}
use Rattle.shapers_plan.specs.declared.ot_map.masks.TheConstants.{F_RANDOM}
use Rattle.shapers_plan.specs.declared.ot_map.requests.FeatureInfo.{FeatureInfo}

-- lookups are in order by their numbers
abbrev pub lookup_number : StageLookup → ℕ
lookup_number lookup = lookup.index

-- a lookup that two features have: it applies where either does, and passes over joiners where both
-- do
abbrev pub joined_lookups : StageLookup → StageLookup → StageLookup
joined_lookups first other = record first {
  mask = bit_or first.mask other.mask;
  auto_zwnj = first.auto_zwnj && other.auto_zwnj;
  auto_zwj = first.auto_zwj && other.auto_zwj;
}

-- how the lookups of a feature apply
abbrev pub applied_by : MappedFeature → StageLookup
applied_by feature = record {
  index = 0;
  mask = feature.mask;
  auto_zwnj = not (has_feature_flag feature.flags F_MANUAL_ZWNJ);
  auto_zwj = not (has_feature_flag feature.flags F_MANUAL_ZWJ);
  random = has_feature_flag feature.flags F_RANDOM;
  per_syllable = has_feature_flag feature.flags F_PER_SYLLABLE;
}

-- how those of the feature apply that the script requires
abbrev pub applied_always : StageLookup
applied_always = record {
  index = 0;
  mask = 0x80000000;
  auto_zwnj = true;
  auto_zwj = true;
  random = false;
  per_syllable = false;
}

-- lookups of these numbers that apply as one does
abbrev pub lookups_like : StageLookup → List ℕ → List StageLookup
lookups_like like indices = map (λ index. record like { index = index }) indices

-- the lookups of a feature
abbrev pub feature_lookups : FontTables → TableIndex → MappedFeature → List StageLookup
feature_lookups tables table feature = lookups_like (applied_by feature)
    (unwrap_or (lookups_of tables table feature.tag feature.flags) [])

-- whether a feature is of a stage; no stage stands for all
abbrev pub is_of_stage : Option ℕ → MappedFeature → Bool
is_of_stage stage feature = option_map_or (λ n. feature.stage == n) stage true

-- the lookups of a stage in the order of their numbers, each once; those of the required feature
-- come first where the stage is theirs
abbrev pub stage_lookups : FontTables → TableIndex → List MappedFeature → Bool → Option ℕ →
    List StageLookup
stage_lookups tables table features is_required stage =
    put_all_in_order lookup_number joined_lookups []
    ((if is_required then lookups_like applied_always (tables.required_lookups table) else [])
    ++ flat_map (feature_lookups tables table) (filter (is_of_stage stage) features))

-- whether a feature has a tag, and is on
abbrev pub is_requested : hb_tag_t → FeatureInfo → Bool
is_requested tag info = same_tag info.tag tag && nat_lt 0 info.max_value

-- the stage of the required feature: that of its request, if one turns it on, else the first
abbrev pub required_stage : FontTables → List FeatureInfo → ℕ
required_stage tables infos = option_map_or (λ tag.
    option_map_or (λ info. info.stage) (find (is_requested tag) infos) 0) (tables.required GSUB) 0

-- the pauses of a list of requests
abbrev pub pauses_of : List Request → List (Option pauses.Pause)
pauses_of [] = []
pauses_of (Feature tag flags value ∷ rs) = pauses_of rs
pauses_of (Pause p ∷ rs) = p ∷ pauses_of rs

-- the stages before these pauses, from the stage of this number on, whose lookups begin here
abbrev pub stages_from : (ℕ → List StageLookup) → ℕ → ℕ → List (Option pauses.Pause) → List Stage
stages_from lookups number start [] = []
stages_from lookups number start (p ∷ ps) = let end = start + length (lookups number) in
    record { start = start; end = end; pause = p } ∷ stages_from lookups (number + 1) end ps

-- their lookups, stage by stage
abbrev pub lookups_from : (ℕ → List StageLookup) → ℕ → List (Option pauses.Pause) → List StageLookup
lookups_from lookups number ps = flat_map lookups (range_with_len number (length ps))

-- the stages of a list of requests, each up to a pause, the last up to the end
abbrev pub stage_ends : List Request → List (Option pauses.Pause)
stage_ends rs = pauses_of rs ++ None ∷ []

-- the lookups of a stage of substitutions
abbrev pub substitutions : FontTables → List MappedFeature → ℕ → ℕ → List StageLookup
substitutions tables features required stage =
    stage_lookups tables GSUB features (stage == required) (Some stage)
