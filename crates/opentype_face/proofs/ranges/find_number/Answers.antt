use Rattle.std.proofs.Common.{arith, sym}
use Rattle.opentype_face.proofs.Searches.{halved_above, halved_below, halved_within, searched_none}
use Rattle.opentype_face.proofs.ranges.find_number.Goals as goal

pub loop-low-preserved-then-number-found : goal.loop-low-preserved-then-number-found
loop-low-preserved-then-number-found c =
    halved_below _ _ _ _ _ _ c.loop-low.invariant c.loop-low-test.true (omega arith)

pub loop-low-preserved : goal.loop-low-preserved
loop-low-preserved c = halved_above _ _ _ _ _ _ c.loop-low.invariant c.loop-low-test.true
    (omega arith) (omega arith)

pub returns-else-found-number : goal.returns-else-found-number
returns-else-found-number c = sym (halved_within _ _ _ _ _ _ c.loop-low.invariant
    c.loop-low-test.true (omega arith) (omega arith))

pub returns : goal.returns
returns c = sym (searched_none _ _ _ _ _ _ c.loop-low.invariant c.loop-low-test.false)
