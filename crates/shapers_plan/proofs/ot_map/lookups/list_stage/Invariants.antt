use Rattle.std.proofs.Common.{◌≡◌, drop}
use Rattle.std.specs.Prelude.{filter}
use Rattle.std.specs.List.{flat_map}
use Rattle.shapers_plan.specs.Ordered.{put_all_in_order}
use Rattle.shapers_plan.specs.Stages.{feature_lookups, is_of_stage, joined_lookups, lookup_number, stage_lookups}
use Rattle.shapers_plan.proofs.ot_map.lookups.list_stage.Given as goal

abbrev pub invariant-loop-feature : goal.invariant-loop-feature
invariant-loop-feature g l = put_all_in_order lookup_number joined_lookups l.list.items (flat_map (feature_lookups (g.L.FontFeatures.tables l.font) l.table) (filter (is_of_stage l.stage) (drop l.feature-index l.features))) ≡ stage_lookups (g.L.FontFeatures.tables l.font) l.table l.features l.is_required l.stage
