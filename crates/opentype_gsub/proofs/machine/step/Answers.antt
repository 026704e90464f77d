use Rattle.std.proofs.Common.{arith, rules, refl, ◌≡◌, length}
use Rattle.opentype_gsub.specs.Came.{frame_of}
use Rattle.opentype_gsub.specs.Machine.{waiting}
use Rattle.opentype_gsub.specs.Setting.{setting_of}
use Rattle.opentype_gsub.proofs.Machines.{call_operations, end_operations, turn_calls, turn_ends, turn_paid, turn_unpaid}
use Rattle.opentype_gsub.proofs.machine.step.Goals as goal

pub returns-then-not-charge : goal.returns-then-not-charge
returns-then-not-charge c = let one = end_operations (setting_of c.args.pass.now) (frame_of c.args.rule.now) (omega arith) in
    turn_unpaid _ _ _ _ (frame_of c.args.rule.now) _ _ (rw one c.charge.ensures.enough) c.if-not-charge.true (rw one c.charge.ensures.charged)

pub returns-then-rule : goal.returns-then-rule
returns-then-rule c = let one = end_operations (setting_of c.args.pass.now) (frame_of c.args.rule.now) (omega arith) in
    turn_paid _ _ _ _ (frame_of c.args.rule.now) _ _ _ (rw one c.charge.ensures.enough) c.if-not-charge.false (rw one c.charge.ensures.charged)
    (turn_ends (setting_of c.args.pass.now) c.args.text.now _ (frame_of c.args.rule.now)
    (frame_of c.end_rule.new.rule) (waiting c.args.callers.now.items) (waiting c.end_rule.new.callers.items) c.end_rule.result (omega arith)
    (let e : c.len.result ≡ length c.args.text.now = search rules in rw e at c.end_rule.ensures))

pub returns-then-not-charge-2 : goal.returns-then-not-charge-2
returns-then-not-charge-2 c =
    let cost = call_operations (setting_of c.args.pass.now) (frame_of c.args.rule.now) _ _ (omega arith) c.next_called-called.ensures c.operations.ensures in
    turn_unpaid _ _ _ _ (frame_of c.args.rule.now) _ _ (rw cost c.charge-2.ensures.enough) c.if-not-charge-2.true (rw cost c.charge-2.ensures.charged)

pub returns-in-Some : goal.returns-in-Some
returns-in-Some c =
    let cost = call_operations (setting_of c.args.pass.now) (frame_of c.args.rule.now) _ _ (omega arith) c.next_called-called.ensures c.operations.ensures in
    turn_paid _ _ _ _ (frame_of c.args.rule.now) _ _ _ (rw cost c.charge-2.ensures.enough) c.if-not-charge-2.false (rw cost c.charge-2.ensures.charged)
    (turn_calls (setting_of c.args.pass.now) c.args.text.now c.call.new.text _ _
    (frame_of c.args.rule.now) (frame_of c.call.new.rule) _ (waiting c.args.callers.now.items) _ (omega arith)
    (rw c.in-Some.is at c.in_ok-inner.ensures) c.go_deeper.ensures)

pub returns-in_default : goal.returns-in_default
returns-in_default c =
    let cost = call_operations (setting_of c.args.pass.now) (frame_of c.args.rule.now) _ _ (omega arith) c.next_called-called.ensures c.operations.ensures in
    turn_paid _ _ _ _ (frame_of c.args.rule.now) _ _ _ (rw cost c.charge-2.ensures.enough) c.if-not-charge-2.false (rw cost c.charge-2.ensures.charged)
    (turn_calls (setting_of c.args.pass.now) c.args.text.now c.call.new.text _ _
    (frame_of c.args.rule.now) (frame_of c.call.new.rule) _ (waiting c.args.callers.now.items) _ (omega arith)
    (rw c.in_default.is at c.in_ok-inner.ensures) refl)
