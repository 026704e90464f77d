use Rattle.opentype_layout.proofs.RulesListed.{AreSetsListed}
use Rattle.opentype_layout.proofs.context_tables.sets_of_rules.Given as goal

abbrev pub invariant-loop-i : goal.invariant-loop-i
invariant-loop-i l = AreSetsListed l.chained l.bytes l.sets.items l.i
