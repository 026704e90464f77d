-- The places before i are done.
use Rattle.shapers_normal.proofs.Joiners.{Showing}
use Rattle.shapers_normal.proofs.ot_shape_normalize.normalizing.show_joiners.Given as goal

abbrev pub invariant-loop-i : goal.invariant-loop-i
invariant-loop-i l = Showing l.initial.glyphs l.glyphs l.i
