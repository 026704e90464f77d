use Rattle.std.proofs.Common.{sym}
use Rattle.opentype_layout.proofs.Lookings.{swept_all, swept_found, swept_missed, swept_start}
use Rattle.opentype_layout.proofs.looking.sweep_back.Goals as goal

pub loop-found-init : goal.loop-found-init
loop-found-init c = swept_start _ _ _ _

pub loop-found-preserved : goal.loop-found-preserved
loop-found-preserved c = swept_found _ _ _ _ _ _ _ c.loop-found.invariant c.loop-found-test.true (cc)

pub returns : goal.returns
returns c = sym (swept_all _ _ _ _ _ _ c.loop-found.invariant c.loop-found-test.false)

pub returns-in_default : goal.returns-in_default
returns-in_default c = swept_missed _ _ _ _ _ _ _ c.loop-found.invariant c.loop-found-test.true (cc) c.stop_back-to.ensures
