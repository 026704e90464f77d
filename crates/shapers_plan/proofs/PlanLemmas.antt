-- A plan is that of its requests where each part is.
use Rattle.std.proofs.Common.{◌≡◌, Bool, List}
use Rattle.std.specs.Prelude.{Option}
use Rattle.std.specs.List.{filter_map}
use Rattle.shapers_buffer.specs.declared.buffer.level.Direction.{Direction}
use Rattle.shapers_buffer.specs.declared.buffer.tag.Script.{Script}
use Rattle.shapers_base.specs.Map.{Map}
use Rattle.shapers_base.specs.declared.plan.hb_ot_shape_plan_t.{hb_ot_shape_plan_t}
use Rattle.shapers_base.specs.declared.plan.planner.Request.{Request}
use Rattle.rustybuzz_shapers.specs.declared.shaper.hb_ot_shaper_t.{hb_ot_shaper_t}
use Rattle.shapers_plan.specs.Compiling.{features_for, lookups_for, map_for, positioning_for, stages_for}
use Rattle.shapers_plan.specs.FontFeatures.{FontTables}
use Rattle.shapers_plan.specs.Planning.{driver_masks, hooks_plan, plan_of_requests, range_of_user, takes_gpos}
use Rattle.shapers_plan.specs.EnginePlan.{PlanView}
use Rattle.shapers_plan.specs.declared.ot_map.lookups.Stage.{Stage}
use Rattle.shapers_plan.specs.declared.ot_map.lookups.StageLookup.{StageLookup}
use Rattle.shapers_plan.specs.declared.ot_map.masks.MappedFeature.{MappedFeature}
use Rattle.shapers_plan.specs.declared.ot_shape_plan.DriverMasks.{DriverMasks}
use Rattle.shapers_plan.specs.declared.ot_shape_plan.choices.ShapeChoices.{ShapeChoices}
use Rattle.shapers_plan.specs.declared.ot_shape_plan.user.UserFeature.{UserFeature}
use Rattle.shapers_plan.specs.declared.ot_shape_plan.user.UserRange.{UserRange}

plan-of-parts : (shaper : Option hb_ot_shaper_t) (script : Option Script) (direction : Direction) (users : List UserFeature) (choices : ShapeChoices) (features features' : List MappedFeature) (stages stages' : List Stage) (lookups lookups' : List StageLookup) (applies applies' : Bool) (positioning positioning' : List StageLookup) (map map' : Map) (plan : hb_ot_shape_plan_t) (masks : DriverMasks) (ranges : List UserRange) → features ≡ features' → stages ≡ stages' → lookups ≡ lookups' → applies ≡ applies' → positioning ≡ positioning' → map ≡ map' → plan ≡ hooks_plan shaper script choices map → masks ≡ driver_masks map → ranges ≡ filter_map (range_of_user features) users → let made : PlanView = record { shaper = shaper; plan = plan; direction = direction; stages = stages; lookups = lookups; applies_gpos = applies; positioning = positioning; masks = masks; ranges = ranges } in let wanted : PlanView = record { shaper = shaper; plan = hooks_plan shaper script choices map'; direction = direction; stages = stages'; lookups = lookups'; applies_gpos = applies'; positioning = positioning'; masks = driver_masks map'; ranges = filter_map (range_of_user features') users } in made ≡ wanted
plan-of-parts shaper script direction users choices features features' stages stages' lookups lookups' applies applies' positioning positioning' map map' plan masks ranges f s l a p m made masked ranged = cc

pub plan-of-requests : (tables : FontTables) (shaper : Option hb_ot_shaper_t) (script : Option Script) (direction : Direction) (users : List UserFeature) (choices : ShapeChoices) (rs : List Request) (features : List MappedFeature) (stages : List Stage) (lookups : List StageLookup) (applies : Bool) (positioning : List StageLookup) (map : Map) (plan : hb_ot_shape_plan_t) (masks : DriverMasks) (ranges : List UserRange) → features ≡ features_for tables rs → stages ≡ stages_for tables rs → lookups ≡ lookups_for tables rs → applies ≡ takes_gpos tables shaper → positioning ≡ positioning_for tables rs → map ≡ map_for tables rs → plan ≡ hooks_plan shaper script choices map → masks ≡ driver_masks map → ranges ≡ filter_map (range_of_user features) users → let made : PlanView = record { shaper = shaper; plan = plan; direction = direction; stages = stages; lookups = lookups; applies_gpos = applies; positioning = positioning; masks = masks; ranges = ranges } in made ≡ plan_of_requests tables shaper script direction users choices rs
plan-of-requests tables shaper script direction users choices rs features stages lookups applies positioning map plan masks ranges f s l a p m made masked ranged =
    plan-of-parts shaper script direction users choices features _ stages _ lookups _ applies _ positioning _ map _ plan masks ranges f s l a p m made masked ranged
