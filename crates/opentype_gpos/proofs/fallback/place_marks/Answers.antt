use Rattle.std.proofs.Common.{arith, refl}
use Rattle.opentype_gpos.proofs.Marks.{marking_all, marking_next}
use Rattle.opentype_gpos.proofs.fallback.place_marks.Goals as goal

pub loop-i-init : goal.loop-i-init
loop-i-init g c = record { rest = refl; paired = cc }

pub loop-i-preserved : goal.loop-i-preserved
loop-i-preserved g c = marking_next _ _ _ _ _ _ _ _ _ _ _ _ _ c.loop-i.invariant c.loop-i-test.true c.place_at-around.ensures.place
    c.place_at-around.ensures.around

pub returns : goal.returns
returns g c = marking_all _ _ _ _ _ _ _ _ _ _ _ c.loop-i.invariant (omega arith)
