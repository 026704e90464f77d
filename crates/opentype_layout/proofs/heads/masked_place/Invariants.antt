use Rattle.opentype_layout.specs.Starts.{AreUnmasked}
use Rattle.opentype_layout.proofs.heads.masked_place.Given as goal

abbrev pub invariant-loop-at : goal.invariant-loop-at
invariant-loop-at l = AreUnmasked l.mask l.glyphs l.from l.at
