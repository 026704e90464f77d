-- What a plan is to its callers.
use Rattle.std.specs.Prelude.{Bool, List, Option}
use Rattle.shapers_buffer.specs.declared.buffer.level.Direction.{Direction}
use Rattle.shapers_base.specs.declared.plan.hb_ot_shape_plan_t.{hb_ot_shape_plan_t}
use Rattle.rustybuzz_shapers.specs.declared.shaper.hb_ot_shaper_t.{hb_ot_shaper_t}
use Rattle.shapers_plan.specs.declared.ot_map.lookups.Stage.{Stage}
use Rattle.shapers_plan.specs.declared.ot_map.lookups.StageLookup.{StageLookup}
use Rattle.shapers_plan.specs.declared.ot_shape_plan.DriverMasks.{DriverMasks}
use Rattle.shapers_plan.specs.declared.ot_shape_plan.user.UserRange.{UserRange}

-- a text's plan: the shaper, the plan that its hooks read, the direction, the stages of GSUB as
-- ranges of the list of its lookups, that list, whether GPOS is applied, its lookups, the masks of
-- the features that the driver turns on, and what the user's features do to clusters
pub record PlanView : Type 0 where
  pub shaper : Option hb_ot_shaper_t
  pub plan : hb_ot_shape_plan_t
  pub direction : Direction
  pub stages : List Stage
  pub lookups : List StageLookup
  pub applies_gpos : Bool
  pub positioning : List StageLookup
  pub masks : DriverMasks
  pub ranges : List UserRange
