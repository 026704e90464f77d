use Rattle.std.proofs.Common.{arith, rules}
use Rattle.opentype_gpos.proofs.Kerning.{kerning_all, kerning_next, kerning_short, kerning_start}
use Rattle.opentype_gpos.proofs.kern.kern_by_subtables.Goals as goal

pub loop-init : goal.loop-init
loop-init c = kerning_start _ _ _ _ _ (cc)

pub returns-then-len-lt6 : goal.returns-then-len-lt6
returns-then-len-lt6 c = kerning_short _ _ _ _ _ _ _ _ _ c.loop.invariant c.u16_at-len.ensures (omega arith)

pub loop-preserved : goal.loop-preserved
loop-preserved c = kerning_next _ _ _ _ _ _ _ _ _ _ _ c.u16_at-len.result c.loop.invariant (omega arith)
    c.u16_at-len.ensures (omega arith) (cc) c.kern_by.ensures (search rules)

pub returns : goal.returns
returns c = kerning_all _ _ _ _ _ _ _ _ c.loop.invariant (omega arith)
