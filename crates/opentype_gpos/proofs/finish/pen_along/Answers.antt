use Rattle.std.proofs.Common.{refl}
use Rattle.opentype_gpos.proofs.Following.{pen_all, pen_next}
use Rattle.opentype_gpos.proofs.finish.pen_along.Goals as goal

pub loop-i-init : goal.loop-i-init
loop-i-init c = record { rest = refl }

pub loop-i-preserved : goal.loop-i-preserved
loop-i-preserved c = pen_next _ _ _ _ _ _ c.loop-i.invariant c.loop-i-test.true (cc)

pub returns : goal.returns
returns c = pen_all _ _ _ _ _ c.loop-i.invariant c.loop-i-test.false
