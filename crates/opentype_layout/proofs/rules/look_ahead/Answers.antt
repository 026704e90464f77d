use Rattle.std.proofs.Common.{sym, ◌∙◌}
use Rattle.opentype_layout.specs.Rules.{reach_behind, reach_from}
use Rattle.opentype_layout.proofs.Reached.{reached_all, reached_next, reached_none, reached_start}
use Rattle.opentype_layout.proofs.rules.look_ahead.Goals as goal

pub loop-k-init : goal.loop-k-init
loop-k-init c = reached_start _ _ _

pub returns-in_default : goal.returns-in_default
unfolding reach_behind reach_from
returns-in_default c = reached_none _ _ _ _ _ c.loop-k.invariant c.loop-k-test.true
    (sym c.next-found.ensures.value ∙ c.in_default.is)

pub loop-k-preserved : goal.loop-k-preserved
loop-k-preserved c = rw c.after-from.ensures (reached_next _ _ _ _ _ _ c.loop-k.invariant c.loop-k-test.true
    (sym c.next-found.ensures.value ∙ c.in-Some.is))

pub returns : goal.returns
unfolding reach_behind reach_from
returns c = reached_all _ _ _ _ _ c.loop-k.invariant c.loop-k-test.false
