use Rattle.opentype_gpos.proofs.Following.{IsFinishing}
use Rattle.opentype_gpos.proofs.finish.finish.Given as goal

abbrev pub invariant-loop-i : goal.invariant-loop-i
invariant-loop-i l = IsFinishing l.direction l.fn.positions l.i l.positions
