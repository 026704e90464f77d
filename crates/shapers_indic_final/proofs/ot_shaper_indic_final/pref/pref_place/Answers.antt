-- No glyph has a bit of the empty mask.
use Rattle.std.proofs.Common.{arith}
use Rattle.shapers_indic_final.proofs.FinalNoMask.{no_place}
use Rattle.shapers_indic_final.proofs.ot_shaper_indic_final.pref.pref_place.Goals as goal

pub returns-then-pref-eq0-clause-place : goal.returns-then-pref-eq0-clause-place
returns-then-pref-eq0-clause-place = search (arith, no_place)
