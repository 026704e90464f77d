use Rattle.opentype_layout.proofs.PositionsListed.{ArePositionsListed}
use Rattle.opentype_layout.proofs.position_tables.tables_of_positions.Given as goal

abbrev pub invariant-loop-i : goal.invariant-loop-i
invariant-loop-i l = ArePositionsListed l.lookup l.tables.items l.i
