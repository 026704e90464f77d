-- What stands before this place decides.
use Rattle.std.proofs.Common.{◌≡◌, length, not}
use Rattle.shapers_base.specs.declared.plan.ot_position_t.TheConstants.{POS_SMVD}
use Rattle.shapers_indic.specs.Glyphs.{greatest_place, has_position, passes}
use Rattle.shapers_indic_final.proofs.ot_shaper_indic_final.reph.last_but_signs.Given as goal

abbrev pub invariant-loop-i : goal.invariant-loop-i
invariant-loop-i l = greatest_place (λ i. not (passes (has_position POS_SMVD) l.glyphs i)) 0 l.i
    ≡ greatest_place (λ i. not (passes (has_position POS_SMVD) l.glyphs i)) 0 (length l.glyphs)
