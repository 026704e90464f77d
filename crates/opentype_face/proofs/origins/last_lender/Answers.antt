use Rattle.std.proofs.Common.{arith, sym}
use Rattle.opentype_face.proofs.Lenders.{lent_last, lent_next, lent_out, lent_start}
use Rattle.opentype_face.proofs.origins.last_lender.Goals as goal

pub loop-i-init : goal.loop-i-init
loop-i-init c = lent_start _ _ _

pub returns-then-flags-eq0 : goal.returns-then-flags-eq0
returns-then-flags-eq0 c = sym (lent_last _ _ _ _ _ _ _ c.loop-i.invariant (omega arith)
    (omega arith) c.lent-found.ensures)

pub loop-i-preserved : goal.loop-i-preserved
loop-i-preserved c = lent_next _ _ _ _ _ _ _ _ c.loop-i.invariant (omega arith) (omega arith)
    (cc) c.component_size-at.ensures.bound c.lent-found.ensures

pub returns : goal.returns
returns c = sym (lent_out _ _ _ _ _ _ c.loop-i.invariant (omega arith))
