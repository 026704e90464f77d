use Rattle.std.proofs.Common.{arith}
use Rattle.opentype_gpos.proofs.Calls.{running_none, running_spent, running_start}
use Rattle.opentype_gpos.proofs.calling.run.Goals as goal

pub loop-left-init : goal.loop-left-init
loop-left-init c = running_start _ _ _ _ _ _ _ _ c.new-frames.ensures (c.push_rule.ensures.same _ _ _) c.push_rule.ensures.few (cc)

pub returns-in-None : goal.returns-in-None
returns-in-None c = running_none _ _ _ _ _ _ _ _ _ c.loop-left.invariant c.in-None.ensures.none c.in-None.ensures.no_glyph
    c.in-None.ensures.no_position

pub returns : goal.returns
returns c = running_spent _ _ _ _ _ _ _ c.loop-left.invariant (omega arith)
