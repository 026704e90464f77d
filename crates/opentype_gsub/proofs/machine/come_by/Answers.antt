use Rattle.std.proofs.Common.{inl, inr}
use Rattle.opentype_gsub.proofs.machine.come_by.Goals.{then-kind-eq5-via-then-kind-eq5, then-kind-eq5-via-else-kind-eq5+then-kind-eq6}
use Rattle.opentype_gsub.proofs.machine.come_by.Goals as goal

pub rule_of-requires-clause-kind : goal.rule_of-requires-clause-kind
rule_of-requires-clause-kind c = elim c.then-kind-eq5.branch [
  | then-kind-eq5-via-then-kind-eq5 w ↦ inl w.if-kind-eq5.true
  | then-kind-eq5-via-else-kind-eq5+then-kind-eq6 w ↦ inr w.if-kind-eq6.true
]
