use Rattle.std.proofs.Common.{arith, rules}
use Rattle.opentype_gpos.specs.KernLefts.{HasBegun}
use Rattle.opentype_gpos.proofs.KernLefts.{if_some, looked_next, looked_short}
use Rattle.opentype_gpos.proofs.kern_lefts.lefts_of.Goals as goal

pub returns-then-len-lt6 : goal.returns-then-len-lt6
returns-then-len-lt6 c = looked_short _ _ _ _ _ _ c.loop.invariant c.u16_at-len.ensures (omega arith)

pub loop-preserved : goal.loop-preserved
loop-preserved c = looked_next _ _ _ _ _ _ _ c.u16_at-len.result c.loop.invariant (omega arith)
    c.u16_at-len.ensures (if_some (HasBegun c.loop.bytes.now c.loop.lefts) c.with_subtable.result
    c.in_ok-lefts.lefts c.with_subtable.ensures (cc)) (search rules)
