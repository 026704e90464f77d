-- Where the search ends is still open before this place; from it on stands no base.
use Rattle.shapers_indic_initial.proofs.Bases.{Searching}
use Rattle.shapers_indic_initial.proofs.ot_shaper_indic_initial.base.last_base.Given as goal

abbrev pub invariant-loop-place : goal.invariant-loop-place
invariant-loop-place l = Searching l.search l.lo l.place l.below l.glyphs
