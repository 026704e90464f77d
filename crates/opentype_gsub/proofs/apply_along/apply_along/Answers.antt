use Rattle.std.proofs.Common.{arith, inl, inr}
use Rattle.opentype_gsub.specs.Setting.{setting_of}
use Rattle.opentype_gsub.proofs.Walks.{near_start, still_left, walked_all, walked_next, walked_out, walked_start}
use Rattle.opentype_gsub.proofs.apply_along.apply_along.Goals as goal

pub loop-steps-init : goal.loop-steps-init
loop-steps-init c = near_start _ _ _ _ _ _ _ _ _ (walked_start _ _ _ _ _)

pub returns-then-place-len : goal.returns-then-place-len
returns-then-place-len c = walked_out _ _ _ _ _ _ _ _ _ c.loop-steps.place c.loop-steps.invariant.walked
    c.loop-steps.invariant.still (inl (omega arith))

pub returns-then-passed-steps : goal.returns-then-passed-steps
returns-then-passed-steps c = walked_out _ _ _ _ _ _ _ _ _ c.loop-steps.place c.loop-steps.invariant.walked
    c.loop-steps.invariant.still (inr (omega (arith, c.loop-steps.invariant.behind)))

pub loop-steps-preserved : goal.loop-steps-preserved
loop-steps-preserved c = record {
  walked = walked_next _ _ _ _ _ _ _ _ _ c.loop-steps.place _ _ _ c.loop-steps.invariant.walked
      c.loop-steps.invariant.still (omega (arith, c.loop-steps.invariant.behind)) (omega arith) (omega arith) c.in_ok-at.ensures;
  still = still_left (setting_of c.args.pass.now) _ _ _ _ _ (rw c.view.ensures at c.next_place-place.ensures.left);
  behind = rw c.view.ensures at c.next_place-place.ensures.behind;
}

pub returns : goal.returns
returns c = walked_all _ _ _ _ _ _ _ _ _ c.loop-steps.invariant.walked (omega arith)
