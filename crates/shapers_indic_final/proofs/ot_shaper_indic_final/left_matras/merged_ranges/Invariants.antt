-- The left matras from this place on have gone.
use Rattle.std.proofs.Common.{◌≤◌}
use Rattle.shapers_indic_final.proofs.LeftMatraWalks.{Walk}
use Rattle.shapers_indic_final.proofs.ot_shaper_indic_final.left_matras.merged_ranges.Given as goal

abbrev pub invariant-loop-i : goal.invariant-loop-i
invariant-loop-i l = (l.i ≤ l.top) × Walk l.start l.i l.top l.target l.base_end l.ranges l.glyphs
