use Rattle.opentype_layout.proofs.Grids.{IsLookupMarking}
use Rattle.opentype_layout.proofs.grid.Grid.mark_lookup.Given as goal

abbrev pub invariant-loop-i : goal.invariant-loop-i
invariant-loop-i l = IsLookupMarking l.self l.fn.words l.words l.of_gpos l.lookup l.i
