use Rattle.std.proofs.Common.{◌≡◌, take}
use Rattle.shapers_base.proofs.map.copied_stages.Given as goal

abbrev pub invariant-loop-stage : goal.invariant-loop-stage
invariant-loop-stage l = l.copy.items ≡ take l.stage-index l.stages
