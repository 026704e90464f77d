use Rattle.std.proofs.Common.{arith, rules}
use Rattle.opentype_gsub.proofs.AsLong.{set_as_long}
use Rattle.opentype_gsub.proofs.Marking.{following_end, following_next, following_out, following_start}
use Rattle.opentype_gsub.proofs.ligating.mark_followers.Goals as goal

pub loop-i-init : goal.loop-i-init
loop-i-init c = following_start _ _ _ _

pub returns-then-not-follows : goal.returns-then-not-follows
returns-then-not-follows c = following_end _ _ _ _ _ _ c.loop-i.invariant (search rules)

pub loop-i-preserved : goal.loop-i-preserved
loop-i-preserved c = following_next _ _ _ _ _ _ _ c.loop-i.invariant
    (let same = c.loop-i.invariant.same in let lt = c.loop-i-test.true in omega arith) (search rules)
    c.mark_at.ensures (set_as_long _ _ _ _ c.mark_at.ensures)

pub returns : goal.returns
returns c = following_out _ _ _ _ _ _ c.loop-i.invariant
    (let same = c.loop-i.invariant.same in let out = c.loop-i-test.false in omega arith)
