use Rattle.opentype_layout.proofs.SubtablesListed.{AreSubtablesListed}
use Rattle.opentype_layout.proofs.substitution_tables.tables_of_sets.Given as goal

abbrev pub invariant-loop-i : goal.invariant-loop-i
invariant-loop-i l = AreSubtablesListed l.lookup l.tables.items l.i
