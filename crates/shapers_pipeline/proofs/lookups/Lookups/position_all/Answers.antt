-- One more lookup, and the one that refuses.
use Rattle.std.proofs.Common.{◌<◌, arith, length}
use Rattle.shapers_pipeline.proofs.StageLengths.{looked_refused, told_error}
use Rattle.shapers_pipeline.proofs.lookups.Lookups.position_all.Goals as goal

pub returns-in_err-position-clause-err : goal.returns-in_err-position-clause-err
returns-in_err-position-clause-err g c =
    let l = c.loop-lookup in
    let it = c.args.self.now in
    let list = c.args.list.now in
    let x = c.in_err-position.field-0.0 in
    let new = c.position.new.buffer in
    let within : l.lookup-index < length list = omega (arith, c.loop-lookup-test.true) in
    told_error c.from_residual.result x _ c.from_residual.ensures.1
    (l.invariant.stopped new x (looked_refused (g.Self.Lookups.positioned it) (g.Self.Lookups.positioning_refuses it) list l.lookup-index _
    l.buffer new x within c.in_err-position.ensures.refusal c.in_err-position.ensures.err))
