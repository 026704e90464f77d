-- What stands before this place decides.
use Rattle.std.proofs.Common.{◌≡◌, ◌+◌}
use Rattle.shapers_indic.specs.Glyphs.{greatest_place, passes}
use Rattle.shapers_indic_final.specs.FinalBase.{is_base_like}
use Rattle.shapers_indic_final.proofs.ot_shaper_indic_final.base.nearest_base_like.Given as goal

abbrev pub invariant-loop-i : goal.invariant-loop-i
invariant-loop-i l = greatest_place (passes is_base_like l.glyphs) 1 l.i
    ≡ greatest_place (passes is_base_like l.glyphs) 1 (l.base + 1)
