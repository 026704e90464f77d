use Rattle.std.proofs.Common.{sym, arith}
use Rattle.opentype_font.proofs.Tests.{none_hit, none_next, none_out}
use Rattle.opentype_font.proofs.would_apply.lookup_applies.Goals as goal

pub returns-then-nth_applies : goal.returns-then-nth_applies
returns-then-nth_applies c = sym (none_hit _ _ _ c.loop-i.invariant (omega arith) (cc))

pub loop-i-preserved : goal.loop-i-preserved
loop-i-preserved c = none_next _ _ _ c.loop-i.invariant (omega arith) (cc)

pub returns : goal.returns
returns c = sym (none_out _ _ _ c.loop-i.invariant (omega arith))
