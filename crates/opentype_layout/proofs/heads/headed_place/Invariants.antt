use Rattle.opentype_layout.specs.Starts.{AreBare}
use Rattle.opentype_layout.proofs.heads.headed_place.Given as goal

abbrev pub invariant-loop-at : goal.invariant-loop-at
invariant-loop-at l = AreBare l.first l.heads l.mask l.glyphs l.from l.at
