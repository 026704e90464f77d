-- The start, one more glyph, and the end.
use Rattle.std.proofs.Common.{arith}
use Rattle.std.proofs.lemmas.Bool.Decides.{nat_tests}
use Rattle.shapers_normal.proofs.Gaps.{recomposing_start, recomposing_next, recomposing_end}
use Rattle.shapers_normal.proofs.ot_shape_normalize.recomposing.recompose_in.Goals as goal

pub loop-place-init : goal.loop-place-init
loop-place-init g c = recomposing_start (g.C.NormalizeContext.context c.args.context.now) c.args.level c.args.glyphs.now
    (grind (arith, nat_tests))

pub loop-place-preserved : goal.loop-place-preserved
loop-place-preserved g c =
    let l = c.loop-place in
    let next = c.step-place.ensures in
    recomposing_next (g.C.NormalizeContext.context c.args.context.now) c.args.level c.args.glyphs.now l.glyphs
    c.step-place.new.glyphs l.place c.step-place.result l.invariant (omega arith) c.step-place.auto.glyphs next.next
    next.from next.to next.starter

pub returns-clause-text : goal.returns-clause-text
returns-clause-text g c =
    let l = c.loop-place in
    recomposing_end (g.C.NormalizeContext.context c.args.context.now) c.args.level c.args.glyphs.now l.glyphs l.place
    l.invariant (omega arith)
