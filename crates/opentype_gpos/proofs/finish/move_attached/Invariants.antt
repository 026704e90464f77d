use Rattle.opentype_gpos.proofs.Following.{IsSettling}
use Rattle.opentype_gpos.proofs.finish.move_attached.Given as goal

abbrev pub invariant-loop-i : goal.invariant-loop-i
invariant-loop-i l = IsSettling l.direction l.links l.fn.positions l.i l.positions
