use Rattle.std.proofs.Common.{◌≡◌, ◌++◌, drop, map}
use Rattle.shapers_plan.specs.Compiling.{as_feature}
use Rattle.shapers_plan.proofs.ot_map.compiling.features_of_map.Given as goal

abbrev pub invariant-loop-feature : goal.invariant-loop-feature
invariant-loop-feature l = l.list.items ++ map as_feature (drop l.feature-index l.features) ≡ map as_feature l.features
