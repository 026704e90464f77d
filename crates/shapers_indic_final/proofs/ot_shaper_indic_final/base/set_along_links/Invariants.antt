-- What the links make of the rest.
use Rattle.shapers_indic_final.proofs.FinalLinks.{Linking}
use Rattle.shapers_indic_final.proofs.ot_shaper_indic_final.base.set_along_links.Given as goal

abbrev pub invariant-loop-i : goal.invariant-loop-i
invariant-loop-i l = Linking l.base l.i l.halant l.last l.fn.glyphs l.glyphs
