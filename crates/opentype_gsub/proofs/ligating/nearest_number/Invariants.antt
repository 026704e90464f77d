use Rattle.opentype_gsub.proofs.Marking.{IsSoughtBack}
use Rattle.opentype_gsub.proofs.ligating.nearest_number.Given as goal

abbrev pub invariant-loop-i : goal.invariant-loop-i
invariant-loop-i l = IsSoughtBack l.glyphs l.at l.i
