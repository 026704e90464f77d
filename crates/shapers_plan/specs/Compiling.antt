-- What a list of requests makes of a font (HarfBuzz, hb-ot-map.cc).
use Rattle.std.specs.Prelude.{ℕ, ◌%◌, ◌==◌, Bool, true, List, map, None}
use Rattle.std.specs.List.{list_all}
use Rattle.std.specs.declared.ops.Range.{Range}
use Rattle.shapers_base.specs.Map.{Map}
use Rattle.shapers_base.specs.declared.map.TableIndex.TheVariants.{GSUB, GPOS}
use Rattle.shapers_base.specs.declared.map.feature_map_t.{feature_map_t}
use Rattle.shapers_base.specs.declared.plan.planner.Request.{Request}
use Rattle.shapers_plan.specs.FontFeatures.{FontTables}
use Rattle.shapers_plan.specs.Masks.{global_mask, mapped}
use Rattle.shapers_plan.specs.Requests.{joined_by_tag}
use Rattle.shapers_plan.specs.Stages.{lookup_number, lookups_from, required_stage, stage_ends, stage_lookups, stages_from, substitutions}
use Rattle.shapers_plan.specs.declared.ot_map.lookups.Stage.{Stage}
use Rattle.shapers_plan.specs.declared.ot_map.lookups.StageLookup.{StageLookup}
use Rattle.shapers_plan.specs.declared.ot_map.masks.MappedFeature.{MappedFeature}

-- the features with their bits
abbrev pub features_for : FontTables → List Request → List MappedFeature
features_for tables rs = mapped tables (joined_by_tag rs)

-- the lookups of a stage of substitutions
abbrev pub substitutions_for : FontTables → List Request → ℕ → List StageLookup
substitutions_for tables rs number =
    substitutions tables (features_for tables rs) (required_stage tables (joined_by_tag rs)) number

-- the stages of substitutions, and their lookups
abbrev pub stages_for : FontTables → List Request → List Stage
stages_for tables rs = stages_from (substitutions_for tables rs) 0 0 (stage_ends rs)

abbrev pub lookups_for : FontTables → List Request → List StageLookup
lookups_for tables rs = lookups_from (substitutions_for tables rs) 0 (stage_ends rs)

-- the lookups of positioning, all in one stage
abbrev pub positioning_for : FontTables → List Request → List StageLookup
positioning_for tables rs = stage_lookups tables GPOS (features_for tables rs) true None

-- a feature and a stage as a shaper's hooks read them: the mask of the value 1, and a range
abbrev pub as_feature : MappedFeature → feature_map_t
as_feature feature = record { tag = feature.tag; mask = feature.one_mask; stage = feature.stage }

abbrev pub as_range : Stage → Range ℕ
as_range stage = record { start = stage.start; end = stage.end }

-- the map that a shaper's hooks read
abbrev pub map_of_parts : FontTables → List MappedFeature → List Stage → List StageLookup → Map
map_of_parts tables features stages lookups = record {
  features = map as_feature features;
  stages = map as_range stages;
  lookups = map lookup_number lookups;
  global = global_mask features;
  chosen = tables.chosen GSUB;
  found = tables.found GSUB;
}

abbrev pub map_for : FontTables → List Request → Map
map_for tables rs = map_of_parts tables (features_for tables rs) (stages_for tables rs)
    (lookups_for tables rs)

-- whether no feature's bits are among the glyph flags
abbrev pub are_off_flags : List MappedFeature → Bool
are_off_flags features = list_all (λ feature. feature.one_mask % 8 == 0) features
