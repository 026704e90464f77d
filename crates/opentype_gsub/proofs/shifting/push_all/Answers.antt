use Rattle.std.proofs.Common.{arith}
use Rattle.std.proofs.lemmas.List.{drop_all, drop_more}
use Rattle.opentype_gsub.proofs.Machines.{filling_all, filling_full, filling_next, filling_start, full_before, is_64, not_64}
use Rattle.opentype_gsub.proofs.shifting.push_all.Goals as goal

pub returns-then-is_full : goal.returns-then-is_full
returns-then-is_full c = full_before _ _ (is_64 _ _ c.is_full.ensures.value c.if-is_full.true)

pub loop-k-init : goal.loop-k-init
loop-k-init c = filling_start _ _ c.is_full.ensures.fits

pub returns-then-is_full-2 : goal.returns-then-is_full-2
returns-then-is_full-2 c = filling_full _ _ _ _ c.loop-k.invariant
    (is_64 _ _ c.is_full-in-loop-k.ensures.value c.if-is_full-2.true)

pub loop-k-preserved : goal.loop-k-preserved
loop-k-preserved c = filling_next _ _ _ _ _ _ _ c.loop-k.invariant
    (drop_more c.args.places.now c.loop-k.k 0 c.loop-k-test.true) c.push.ensures.items
    (not_64 _ _ c.is_full-in-loop-k.ensures.value c.if-is_full-2.false c.is_full-in-loop-k.ensures.fits)

pub returns : goal.returns
returns c = filling_all _ _ _ _ c.loop-k.invariant (drop_all c.loop-k.k c.args.places.now (omega arith))
