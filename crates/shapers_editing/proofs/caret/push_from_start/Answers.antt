use Rattle.std.proofs.Common.{arith}
use Rattle.shapers_editing.proofs.StopRooms.{full-up-to, refused-so}
use Rattle.shapers_editing.proofs.caret.push_from_start.Goals as goal

pub returns-in_err-push_lesser-clause-full : goal.returns-in_err-push_lesser-clause-full
returns-in_err-push_lesser-clause-full c =
    let l = c.loop-glyph in
    let full = full-up-to _ _ c.args.glyphs.now l.glyph-index _ (omega (arith, c.loop-glyph-test.true))
    l.invariant.stops c.in_err-push_lesser.ensures.full in
    refused-so c.from_residual.result (omega (arith, full, l.invariant.capacity))
