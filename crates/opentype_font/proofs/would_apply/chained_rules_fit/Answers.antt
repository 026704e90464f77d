use Rattle.std.proofs.Common.{sym, arith}
use Rattle.opentype_font.proofs.Tests.{none_hit, none_next, none_out}
use Rattle.opentype_font.proofs.would_apply.chained_rules_fit.Goals as goal

pub returns-then-chained_rule_fits : goal.returns-then-chained_rule_fits
returns-then-chained_rule_fits c = sym (none_hit _ _ _ c.loop-i.invariant (omega arith) (cc))

pub loop-i-preserved : goal.loop-i-preserved
loop-i-preserved c = none_next _ _ _ c.loop-i.invariant (omega arith) (cc)

pub returns : goal.returns
returns c = sym (none_out _ _ _ c.loop-i.invariant (omega arith))
