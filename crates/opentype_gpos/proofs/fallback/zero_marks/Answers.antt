use Rattle.std.proofs.Common.{arith, refl}
use Rattle.opentype_gpos.proofs.Marks.{zeroing_all, zeroing_next}
use Rattle.opentype_gpos.proofs.fallback.zero_marks.Goals as goal

pub loop-i-init : goal.loop-i-init
loop-i-init c = record { rest = refl; paired = cc }

pub loop-i-preserved : goal.loop-i-preserved
loop-i-preserved c = zeroing_next _ _ _ _ _ _ _ _ c.loop-i.invariant c.loop-i-test.true (cc)

pub returns : goal.returns
returns c = zeroing_all _ _ _ _ _ _ _ c.loop-i.invariant (omega arith)
