use Rattle.opentype_face.proofs.Lenders.{IsLent}
use Rattle.opentype_face.proofs.origins.last_lender.Given as goal

abbrev pub invariant-loop-i : goal.invariant-loop-i
invariant-loop-i l = IsLent l.outline 2048 10 l._i l.at l.found
