use Rattle.opentype_face.proofs.Named.{IsNth}
use Rattle.opentype_face.proofs.names.start_of_nth.Given as goal

abbrev pub invariant-loop-i : goal.invariant-loop-i
invariant-loop-i l = IsNth l.bytes l.start l.n l._i l.at
