-- What stands before this place decides.
use Rattle.std.proofs.Common.{◌≡◌, length, ◌+◌}
use Rattle.shapers_indic.specs.Glyphs.{greatest_place, passes}
use Rattle.shapers_indic_initial.specs.InitialPositions.{is_passed_by_halant}
use Rattle.shapers_indic_initial.proofs.ot_shaper_indic_initial.halant.last_after_halant.Given as goal

abbrev pub invariant-loop-place : goal.invariant-loop-place
invariant-loop-place l = greatest_place (passes (is_passed_by_halant l.script) l.glyphs) (l.halant + 1) l.place
    ≡ greatest_place (passes (is_passed_by_halant l.script) l.glyphs) (l.halant + 1) (length l.glyphs)
