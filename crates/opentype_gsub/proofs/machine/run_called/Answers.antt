use Rattle.std.proofs.Common.{arith, rules}
use Rattle.opentype_gsub.proofs.Machines.{running_end, running_next, running_out, running_start}
use Rattle.opentype_gsub.proofs.machine.run_called.Goals as goal

pub loop-left-init : goal.loop-left-init
loop-left-init c = running_start _ _ _ _ _ _ (search rules)

pub returns-in-Ok-Some : goal.returns-in-Ok-Some
returns-in-Ok-Some c = running_end _ _ _ _ _ _ _ _ _ _ _ _ _ c.loop-left.invariant (omega arith)
    (rw c.in-Ok-Some.field-0-is at c.in-Ok-Some.ensures)

pub loop-left-preserved : goal.loop-left-preserved
loop-left-preserved c = running_next _ _ _ _ _ _ _ _ _ _ _ _ c.loop-left.invariant (omega arith)
    (rw c.in-Ok-None.field-0-is at c.in-Ok-None.ensures)

pub returns : goal.returns
returns c = running_out _ _ _ _ _ _ _ _ _ c.loop-left.invariant (omega arith)
