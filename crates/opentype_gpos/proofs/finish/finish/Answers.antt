use Rattle.opentype_gpos.proofs.Following.{finishing_all, finishing_next, finishing_start}
use Rattle.opentype_gpos.proofs.finish.finish.Goals as goal

pub loop-i-init : goal.loop-i-init
loop-i-init c = finishing_start _ _

pub returns : goal.returns
returns c = finishing_all _ _ _ _ c.loop-i.invariant c.loop-i-test.false

pub loop-i-preserved : goal.loop-i-preserved
loop-i-preserved c = finishing_next _ _ _ _ _ _ c.loop-i.invariant c.loop-i-test.true
    (rw c.is_backward-backward.ensures at c.drawn_place-at.ensures.value) c.follow.ensures
