use Rattle.std.proofs.Common.{arith, lit<}
use Rattle.opentype_gpos.proofs.Following.{climbed_all, climbed_end, climbed_next, climbed_start}
use Rattle.opentype_gpos.proofs.finish.climb.Goals as goal

pub loop-init : goal.loop-init
loop-init c = rw c.new-links.ensures (climbed_start _ _ c.requires)

pub push-requires : goal.push-requires
push-requires c = let a = c.loop.invariant.number in (lit< tt, omega arith)

pub loop-preserved : goal.loop-preserved
loop-preserved c = rw c.push.ensures.items (climbed_next _ _ _ _ _ _ _ _ _ c.loop.invariant
    c.loop-test.true c.attachment_of-found.ensures.value c.attachment_of-found.ensures.within (cc)
    c.let_go.ensures)

pub returns-in-None : goal.returns-in-None
returns-in-None c = climbed_end _ _ _ _ _ _ _ _ c.loop.invariant c.loop-test.true
    c.attachment_of-found.ensures.value (cc) c.let_go.ensures

pub returns : goal.returns
returns c = climbed_all _ _ _ _ _ _ _ c.loop.invariant c.loop-test.false c.let_go-2.ensures
