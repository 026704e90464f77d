use Rattle.std.proofs.Common.{arith, rules}
use Rattle.opentype_gpos.proofs.Following.{settling_all, settling_next, settling_start}
use Rattle.opentype_gpos.proofs.finish.move_attached.Goals as goal

pub loop-i-init : goal.loop-i-init
loop-i-init c = settling_start _ _ _

pub returns : goal.returns
returns c = settling_all _ _ _ _ _ c.loop-i.invariant c.loop-i-test.false

pub loop-i-preserved : goal.loop-i-preserved
loop-i-preserved c = settling_next _ _ _ _ _ _ _ c.loop-i.invariant c.loop-i-test.true (search (arith, rules))
    c.place_on.ensures
