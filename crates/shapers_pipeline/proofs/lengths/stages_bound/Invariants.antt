-- The stages that are left bound the text by what all do, up to the greatest number.
use Rattle.std.proofs.Common.{◌≡◌, ◌≤◌, ◌-◌, ◌^◌, drop, min}
use Rattle.shapers_pipeline.specs.Lengths.{stages_bound}
use Rattle.shapers_pipeline.proofs.lengths.stages_bound.Given as goal

abbrev pub invariant-loop-stage : goal.invariant-loop-stage
invariant-loop-stage g l =
    let growth = g.L.Lookups.growth_of l.lookups in
    record {
      fits : l.bound ≤ 2 ^ 64 - 1;
      rest : min (stages_bound growth l.list (drop l.stage-index l.stages) l.bound) (2 ^ 64 - 1)
          ≡ min (stages_bound growth l.list l.stages l.initial.bound) (2 ^ 64 - 1);
    }
