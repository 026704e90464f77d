use Rattle.std.proofs.Common.{◌≡◌, ◌++◌, drop}
use Rattle.std.specs.List.{filter_map}
use Rattle.shapers_plan.specs.Planning.{range_of_user}
use Rattle.shapers_plan.proofs.ot_shape_plan.making.user_ranges.Given as goal

abbrev pub invariant-loop-user : goal.invariant-loop-user
invariant-loop-user l = l.list.items ++ filter_map (range_of_user l.features) (drop l.user-index l.users) ≡ filter_map (range_of_user l.features) l.users
