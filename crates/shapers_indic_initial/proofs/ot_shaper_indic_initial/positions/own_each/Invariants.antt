-- The glyphs that are done, and the position of what the next consonant owns.
use Rattle.shapers_indic_initial.proofs.Positions.{Owning}
use Rattle.shapers_indic_initial.proofs.ot_shaper_indic_initial.positions.own_each.Given as goal

abbrev pub invariant-loop-i : goal.invariant-loop-i
invariant-loop-i l = Owning l.i l.owner l.initial.glyphs l.glyphs
