-- One more lookup.
use Rattle.std.proofs.Common.{arith}
use Rattle.shapers_pipeline.proofs.LengthBounds.{looked_up_next}
use Rattle.shapers_pipeline.proofs.lengths.looked_up_bound.Goals as goal

pub loop-lookup-preserved : goal.loop-lookup-preserved
loop-lookup-preserved g c =
    let growth = g.L.Lookups.growth_of c.args.lookups.now in
    let i = c.loop-lookup.lookup-index in
    record {
      fits = omega (arith, c.saturating_mul-bound.ensures);
      rest = grind (arith, looked_up_next growth c.args.list.now i c.loop-lookup.bound);
    }
