use Rattle.opentype_layout.proofs.RowMarks.{IsMarking}
use Rattle.opentype_layout.proofs.lookup_rows.mark_rows.Given as goal

abbrev pub invariant-loop-index : goal.invariant-loop-index
invariant-loop-index l = IsMarking l.of_gpos l.fn.words l.starts l.words l.index
