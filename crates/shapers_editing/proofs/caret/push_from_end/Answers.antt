use Rattle.std.proofs.Common.{◌-◌, arith, rules}
use Rattle.shapers_editing.proofs.StopRooms.{full-from, refused-so}
use Rattle.shapers_editing.proofs.caret.push_from_end.Goals as goal

pub returns-in_err-push_lesser-clause-full : goal.returns-in_err-push_lesser-clause-full
returns-in_err-push_lesser-clause-full c =
    let l = c.loop-behind in
    let full = full-from _ _ c.args.glyphs.now (l.behind - 1) _ (omega (arith, c.loop-behind-test.true, l.invariant.within))
    (search (rules, l.invariant.stops)) c.in_err-push_lesser.ensures.full in
    refused-so c.from_residual.result (omega (arith, full, l.invariant.capacity))
