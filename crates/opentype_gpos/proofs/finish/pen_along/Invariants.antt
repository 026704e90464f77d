use Rattle.opentype_gpos.proofs.Following.{IsPen}
use Rattle.opentype_gpos.proofs.finish.pen_along.Given as goal

abbrev pub invariant-loop-i : goal.invariant-loop-i
invariant-loop-i l = IsPen l.positions l.start l.end l.i l.pen
