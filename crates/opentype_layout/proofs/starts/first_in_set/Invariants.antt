use Rattle.opentype_layout.specs.Starts.{AreOutside}
use Rattle.opentype_layout.proofs.starts.first_in_set.Given as goal

abbrev pub invariant-loop-at : goal.invariant-loop-at
invariant-loop-at l = AreOutside l.set l.mask l.glyphs l.from l.at
