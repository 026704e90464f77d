use Rattle.opentype_layout.proofs.Grids.{IsMarking}
use Rattle.opentype_layout.proofs.grid.mark_rows.Given as goal

abbrev pub invariant-loop-row : goal.invariant-loop-row
invariant-loop-row l = IsMarking l.fn.words l.words l.width l.i l.from l.row
