use Rattle.std.proofs.Common.{sym, arith}
use Rattle.opentype_font.proofs.Tests.{all_fails, all_next, all_out}
use Rattle.opentype_font.proofs.would_apply.fit_each.Goals as goal

pub returns-then-not-fits : goal.returns-then-not-fits
returns-then-not-fits c = sym (all_fails _ _ _ c.loop-i.invariant (omega arith) (cc))

pub loop-i-preserved : goal.loop-i-preserved
loop-i-preserved c = all_next _ _ _ c.loop-i.invariant (omega arith) (cc)

pub returns : goal.returns
returns c = sym (all_out _ _ _ c.loop-i.invariant (omega arith))
