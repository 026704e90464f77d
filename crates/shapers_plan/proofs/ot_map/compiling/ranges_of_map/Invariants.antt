use Rattle.std.proofs.Common.{◌≡◌, ◌++◌, drop, map}
use Rattle.shapers_plan.specs.Compiling.{as_range}
use Rattle.shapers_plan.proofs.ot_map.compiling.ranges_of_map.Given as goal

abbrev pub invariant-loop-stage : goal.invariant-loop-stage
invariant-loop-stage l = l.list.items ++ map as_range (drop l.stage-index l.stages) ≡ map as_range l.stages
