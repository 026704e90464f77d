use Rattle.std.proofs.Common.{arith, refl, [], None, Some}
use Rattle.opentype_gsub.specs.Came.{frame_of}
use Rattle.opentype_gsub.specs.Setting.{setting_of}
use Rattle.opentype_gsub.proofs.Machines.{call_operations, end_operations, running_called, running_end, running_next, running_out, running_start, turn_calls, turn_ends, turn_paid, turn_unpaid}
use Rattle.opentype_gsub.proofs.machine.run.Goals as goal

pub loop-left-init : goal.loop-left-init
loop-left-init c = running_start _ _ _ _ _ _ refl

pub returns-then-not-charge : goal.returns-then-not-charge
returns-then-not-charge c = let one = end_operations (setting_of c.args.pass.now) (frame_of c.loop-left.rule) (omega arith) in
    running_end _ _ _ _ _ _ _ _ _ _ _ _ _ c.loop-left.invariant (omega arith)
    (turn_unpaid (setting_of c.args.pass.now) _ _ _ (frame_of c.loop-left.rule) _ _ (rw one c.charge.ensures.enough)
    c.if-not-charge.true (rw one c.charge.ensures.charged))

pub returns-then-rule : goal.returns-then-rule
returns-then-rule c = let one = end_operations (setting_of c.args.pass.now) (frame_of c.loop-left.rule) (omega arith) in
    running_end _ _ _ _ _ _ _ _ _ _ _ _ _ c.loop-left.invariant (omega arith)
    (turn_paid (setting_of c.args.pass.now) _ _ _ (frame_of c.loop-left.rule) _ _ _ (rw one c.charge.ensures.enough)
    c.if-not-charge.false (rw one c.charge.ensures.charged)
    (turn_ends (setting_of c.args.pass.now) c.loop-left.text _ (frame_of c.loop-left.rule) (frame_of c.loop-left.rule) [] []
    (Some (Some c.loop-left.rule.end)) (omega arith) refl))

pub returns-then-not-charge-2 : goal.returns-then-not-charge-2
returns-then-not-charge-2 c =
    let cost = call_operations (setting_of c.args.pass.now) (frame_of c.loop-left.rule) _ _ (omega arith) c.next_called-called.ensures c.operations.ensures in
    running_end _ _ _ _ _ _ _ _ _ _ _ _ _ c.loop-left.invariant (omega arith)
    (turn_unpaid (setting_of c.args.pass.now) _ _ _ (frame_of c.loop-left.rule) _ _ (rw cost c.charge-in-loop-left.ensures.enough) c.if-not-charge-2.true
    (rw cost c.charge-in-loop-left.ensures.charged))

pub returns-in-Ok-Some : goal.returns-in-Ok-Some
returns-in-Ok-Some c =
    let cost = call_operations (setting_of c.args.pass.now) (frame_of c.loop-left.rule) _ _ (omega arith) c.next_called-called.ensures c.operations.ensures in
    running_called _ _ _ _ _ _ _ _ _ _ _ _ _ _ _ c.loop-left.invariant (omega arith)
    (turn_paid (setting_of c.args.pass.now) _ _ _ (frame_of c.loop-left.rule) _ _ _ (rw cost c.charge-in-loop-left.ensures.enough) c.if-not-charge-2.false
    (rw cost c.charge-in-loop-left.ensures.charged)
    (turn_calls (setting_of c.args.pass.now) c.loop-left.text c.call.new.text _ _
    (frame_of c.loop-left.rule) (frame_of c.call.new.rule) (Some (frame_of c.in-Ok-Some.inner)) [] _ (omega arith)
    (rw c.in-Ok-Some.field-0-is at c.in-Ok-Some.ensures) refl)) c.run_called.ensures

pub loop-left-preserved : goal.loop-left-preserved
loop-left-preserved c =
    let cost = call_operations (setting_of c.args.pass.now) (frame_of c.loop-left.rule) _ _ (omega arith) c.next_called-called.ensures c.operations.ensures in
    running_next _ _ _ _ _ _ _ _ _ _ _ _ c.loop-left.invariant (omega arith)
    (turn_paid (setting_of c.args.pass.now) _ _ _ (frame_of c.loop-left.rule) _ _ _ (rw cost c.charge-in-loop-left.ensures.enough) c.if-not-charge-2.false
    (rw cost c.charge-in-loop-left.ensures.charged)
    (turn_calls (setting_of c.args.pass.now) c.loop-left.text c.call.new.text _ _
    (frame_of c.loop-left.rule) (frame_of c.call.new.rule) None [] _ (omega arith)
    (rw c.in-Ok-None.field-0-is at c.in-Ok-None.ensures) refl))

pub returns : goal.returns
returns c = running_out _ _ _ _ _ _ _ _ _ c.loop-left.invariant (omega arith)
