use Rattle.opentype_layout.proofs.Listed.{AreListed}
use Rattle.opentype_layout.proofs.tables.lookup_tables.Given as goal

abbrev pub invariant-loop-index : goal.invariant-loop-index
invariant-loop-index l = AreListed l.bytes l.tables.items l.index
