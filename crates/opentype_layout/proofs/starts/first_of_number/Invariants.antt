use Rattle.opentype_layout.specs.Starts.{AreOthers}
use Rattle.opentype_layout.proofs.starts.first_of_number.Given as goal

abbrev pub invariant-loop-at : goal.invariant-loop-at
invariant-loop-at l = AreOthers l.only l.mask l.glyphs l.from l.at
