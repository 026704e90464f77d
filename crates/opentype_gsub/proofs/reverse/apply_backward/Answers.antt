use Rattle.std.proofs.Common.{arith, rules}
use Rattle.opentype_gsub.proofs.Backwards.{back_all, back_next, back_start}
use Rattle.opentype_gsub.proofs.reverse.apply_backward.Goals as goal

pub loop-at-init : goal.loop-at-init
loop-at-init c = search (rules, back_start)

pub step_back-requires : goal.step_back-requires
step_back-requires c = (let same = c.loop-at.invariant.same in let lt = c.loop-at-test.true in omega arith)

pub loop-at-preserved : goal.loop-at-preserved
loop-at-preserved c = back_next _ _ _ _ _ c.loop-at.invariant c.loop-at-test.true c.step_back.ensures.value c.step_back.ensures.length

pub returns : goal.returns
returns c = back_all _ _ _ _ c.loop-at.invariant (omega arith)
