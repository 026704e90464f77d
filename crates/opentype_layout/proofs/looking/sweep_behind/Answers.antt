use Rattle.std.proofs.Common.{sym}
use Rattle.opentype_layout.proofs.Lookings.{swept_all, swept_found, swept_missed, swept_start}
use Rattle.opentype_layout.proofs.looking.sweep_behind.Goals as goal

pub loop-found-init : goal.loop-found-init
loop-found-init c = swept_start _ _ _ _

pub loop-found-preserved : goal.loop-found-preserved
loop-found-preserved c = rw c.after-to.ensures (swept_found _ _ _ _ _ _ _ c.loop-found.invariant c.loop-found-test.true (cc))

pub returns-clause-value : goal.returns-clause-value
returns-clause-value c = sym (swept_all _ _ _ _ _ _ c.loop-found.invariant c.loop-found-test.false)

pub returns-in_default-clause-value : goal.returns-in_default-clause-value
returns-in_default-clause-value c = swept_missed _ _ _ _ _ _ _ c.loop-found.invariant c.loop-found-test.true (cc) c.stop_behind-to.ensures
