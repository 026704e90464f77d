use Rattle.opentype_layout.proofs.Headed.{IsHeading}
use Rattle.opentype_layout.proofs.heads.mark_heads.Given as goal

abbrev pub invariant-loop-row : goal.invariant-loop-row
invariant-loop-row l = IsHeading l.fn.heads l.heads l.words l.grid.width l.count l.row
