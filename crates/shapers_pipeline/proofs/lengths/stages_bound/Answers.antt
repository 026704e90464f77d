-- One more stage.
use Rattle.std.proofs.Common.{arith}
use Rattle.shapers_pipeline.proofs.LengthBounds.{stages_next}
use Rattle.shapers_pipeline.proofs.lengths.stages_bound.Goals as goal

pub loop-stage-preserved : goal.loop-stage-preserved
loop-stage-preserved g c =
    let growth = g.L.Lookups.growth_of c.args.lookups.now in
    let i = c.loop-stage.stage-index in
    record {
      fits = omega (arith, c.saturating_mul-bound.ensures);
      rest = grind (arith, stages_next growth c.args.list.now c.args.stages.now i c.loop-stage.bound);
    }
