use Rattle.std.proofs.Common.{◌-◌, ◌*◌, length}
use Rattle.opentype_layout.proofs.RowMarks.{IsColumn}
use Rattle.opentype_layout.proofs.lookup_rows.mark_column.Given as goal

abbrev pub invariant-loop-k : goal.invariant-loop-k
invariant-loop-k l = IsColumn l.fn.words l.words l.heads l.first l.index l.k

abbrev pub decreases-loop-k : goal.decreases-loop-k
decreases-loop-k l = length l.heads * 64 - l.k
