use Rattle.std.proofs.Common.{◌≡◌, drop, bit_or}
use Rattle.std.specs.Prelude.{fold}
use Rattle.shapers_plan.specs.Masks.{global_mask, value_in}
use Rattle.shapers_plan.proofs.ot_map.masks.global_mask.Given as goal

abbrev pub invariant-loop-feature : goal.invariant-loop-feature
invariant-loop-feature l = fold (λ mask feature. bit_or mask (value_in feature feature.default_value)) l.mask (drop l.feature-index l.features) ≡ global_mask l.features
