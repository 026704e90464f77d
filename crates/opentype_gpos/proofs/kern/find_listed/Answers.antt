use Rattle.std.proofs.Common.{arith, sym}
use Rattle.opentype_face.proofs.Searches.{halved_above, halved_below, halved_within, searched_none}
use Rattle.opentype_gpos.proofs.kern.find_listed.Goals as goal

pub loop-low-preserved-then-pair-found : goal.loop-low-preserved-then-pair-found
loop-low-preserved-then-pair-found c =
    halved_below _ _ _ _ _ _ c.loop-low.invariant c.loop-low-test.true (omega arith)

pub loop-low-preserved : goal.loop-low-preserved
loop-low-preserved c = halved_above _ _ _ _ _ _ c.loop-low.invariant c.loop-low-test.true
    (omega arith) (omega arith)

pub returns-else-found-pair : goal.returns-else-found-pair
returns-else-found-pair c = sym (halved_within _ _ _ _ _ _ c.loop-low.invariant
    c.loop-low-test.true (omega arith) (omega arith))

pub returns : goal.returns
returns c = sym (searched_none _ _ _ _ _ _ c.loop-low.invariant c.loop-low-test.false)
