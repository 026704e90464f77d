-- The lookups that are left bound the text by what all do, up to the greatest number.
use Rattle.std.proofs.Common.{◌≡◌, ◌≤◌, ◌-◌, ◌^◌, drop, min}
use Rattle.shapers_pipeline.specs.Lengths.{looked_up_bound}
use Rattle.shapers_pipeline.proofs.lengths.looked_up_bound.Given as goal

abbrev pub invariant-loop-lookup : goal.invariant-loop-lookup
invariant-loop-lookup g l =
    let growth = g.L.Lookups.growth_of l.lookups in
    record {
      fits : l.bound ≤ 2 ^ 64 - 1;
      rest : min (looked_up_bound growth (drop l.lookup-index l.list) l.bound) (2 ^ 64 - 1)
          ≡ min (looked_up_bound growth l.list l.initial.bound) (2 ^ 64 - 1);
    }
