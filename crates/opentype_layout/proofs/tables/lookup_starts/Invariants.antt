use Rattle.opentype_layout.proofs.Listed.{AreListed}
use Rattle.opentype_layout.proofs.tables.lookup_starts.Given as goal

abbrev pub invariant-loop-index : goal.invariant-loop-index
invariant-loop-index l = AreListed l.bytes l.starts.items l.index
