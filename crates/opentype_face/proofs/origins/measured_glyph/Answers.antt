use Rattle.std.proofs.Common.{arith, sym}
use Rattle.opentype_face.proofs.Lenders.{measured_next, measured_out, measured_own, measured_start}
use Rattle.opentype_face.proofs.origins.measured_glyph.Goals as goal

pub loop-i-init : goal.loop-i-init
loop-i-init c = measured_start _ _ _ _ _

pub returns-in-None : goal.returns-in-None
returns-in-None c = sym (measured_own _ _ _ _ _ _ _ c.loop-i.invariant (cc))

pub loop-i-preserved : goal.loop-i-preserved
loop-i-preserved c = measured_next _ _ _ _ _ _ _ _ c.loop-i.invariant (omega arith) (cc)

pub returns : goal.returns
returns c = sym (measured_out _ _ _ _ _ _ _ c.loop-i.invariant (omega arith))
