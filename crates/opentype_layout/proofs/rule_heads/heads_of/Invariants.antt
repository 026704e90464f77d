use Rattle.opentype_layout.proofs.RulesListed.{AreRuleHeadsListed}
use Rattle.opentype_layout.proofs.rule_heads.heads_of.Given as goal

abbrev pub invariant-loop-i : goal.invariant-loop-i
invariant-loop-i l = AreRuleHeadsListed l.chained l.set l.heads.items l.i
