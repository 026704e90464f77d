-- How many have stayed so far.
use Rattle.shapers_indic_final.specs.LeftMatraWalk.{has_stayed}
use Rattle.shapers_indic_final.proofs.LeftMatraPlaces.{Counted}
use Rattle.shapers_indic_final.proofs.ot_shaper_indic_final.left_matras.len_staying.Given as goal

abbrev pub invariant-loop-j : goal.invariant-loop-j
invariant-loop-j l = Counted (has_stayed l.from l.top l.glyphs) l.start l.j l.len
