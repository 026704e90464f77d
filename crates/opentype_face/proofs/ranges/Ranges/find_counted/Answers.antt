use Rattle.std.proofs.Common.{arith, sym}
use Rattle.opentype_face.proofs.Searches.{searched_above, searched_below, searched_none, searched_within}
use Rattle.opentype_face.proofs.ranges.Ranges.find_counted.Goals as goal

pub loop-low-preserved-then-number-u24_at : goal.loop-low-preserved-then-number-u24_at
loop-low-preserved-then-number-u24_at c =
    searched_below _ _ _ _ _ _ c.loop-low.invariant c.loop-low-test.true (omega arith)

pub loop-low-preserved : goal.loop-low-preserved
loop-low-preserved c = searched_above _ _ _ _ _ _ c.loop-low.invariant c.loop-low-test.true
    (omega arith) (omega arith)

pub returns-else-counted_end-number : goal.returns-else-counted_end-number
returns-else-counted_end-number c = sym (searched_within _ _ _ _ _ _ c.loop-low.invariant
    c.loop-low-test.true (omega arith) (omega arith))

pub returns : goal.returns
returns c = sym (searched_none _ _ _ _ _ _ c.loop-low.invariant c.loop-low-test.false)
