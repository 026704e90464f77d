use Rattle.std.proofs.Common.{◌+◌}
use Rattle.opentype_gsub.proofs.Marking.{IsMarked}
use Rattle.opentype_gsub.proofs.ligating.mark_inside.Given as goal

abbrev pub invariant-loop-i : goal.invariant-loop-i
invariant-loop-i l = IsMarked l.number l.places l.fn.text l.fn.counted (l.at + 1) (l.last + 1) l.i l.text l.counted
