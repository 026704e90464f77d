-- What stands before this place decides.
use Rattle.std.proofs.Common.{◌≡◌}
use Rattle.shapers_indic.specs.Glyphs.{greatest_place, passes}
use Rattle.shapers_indic_final.specs.FinalGlyphs.{is_matra_or_halant}
use Rattle.shapers_indic_final.proofs.ot_shaper_indic_final.pref.behind_sign.Given as goal

abbrev pub invariant-loop-i : goal.invariant-loop-i
invariant-loop-i l = greatest_place (passes is_matra_or_halant l.glyphs) 0 l.i
    ≡ greatest_place (passes is_matra_or_halant l.glyphs) 0 l.base
