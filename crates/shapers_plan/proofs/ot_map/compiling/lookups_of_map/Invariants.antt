use Rattle.std.proofs.Common.{◌≡◌, ◌++◌, drop, map}
use Rattle.shapers_plan.specs.Stages.{lookup_number}
use Rattle.shapers_plan.proofs.ot_map.compiling.lookups_of_map.Given as goal

abbrev pub invariant-loop-lookup : goal.invariant-loop-lookup
invariant-loop-lookup l = l.list.items ++ map lookup_number (drop l.lookup-index l.lookups) ≡ map lookup_number l.lookups
