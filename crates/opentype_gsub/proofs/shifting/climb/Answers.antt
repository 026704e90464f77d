use Rattle.opentype_gsub.proofs.Machines.{climb_more, climb_start, climbing_out, filling_all, filling_full, filling_next, full_before, is_64, not_64}
use Rattle.opentype_gsub.proofs.shifting.climb.Goals as goal

pub returns-then-is_full : goal.returns-then-is_full
returns-then-is_full c = full_before _ _ (is_64 _ _ c.is_full.ensures.value c.if-is_full.true)

pub loop-init : goal.loop-init
loop-init c = climb_start _ _ _ c.is_full.ensures.fits

pub returns-then-is_full-2 : goal.returns-then-is_full-2
returns-then-is_full-2 c = filling_full _ _ _ _ c.loop.invariant
    (is_64 _ _ c.is_full-in-loop.ensures.value c.if-is_full-2.true)

pub loop-preserved : goal.loop-preserved
loop-preserved c = filling_next _ _ _ _ _ _ _ c.loop.invariant
    (climb_more _ _ _ _ c.loop-test.true c.saturating_add-from.ensures) c.push.ensures.items
    (not_64 _ _ c.is_full-in-loop.ensures.value c.if-is_full-2.false c.is_full-in-loop.ensures.fits)

pub returns : goal.returns
returns c = filling_all _ _ _ _ c.loop.invariant (climbing_out _ _ _ c.loop-test.false)
