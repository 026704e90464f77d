use Rattle.opentype_layout.proofs.PairsListed.{ArePairsListed}
use Rattle.opentype_layout.proofs.pair_tables.tables_of_pairs.Given as goal

abbrev pub invariant-loop-i : goal.invariant-loop-i
invariant-loop-i l = ArePairsListed l.lookup l.tables.items l.i
