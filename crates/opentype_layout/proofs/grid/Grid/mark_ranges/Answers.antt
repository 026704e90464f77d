use Rattle.std.proofs.Common.{arith, refl}
use Rattle.opentype_layout.proofs.Grids.{ranges_all, ranges_next}
use Rattle.opentype_layout.proofs.grid.Grid.mark_ranges.Goals as goal

pub loop-j-preserved : goal.loop-j-preserved
loop-j-preserved c = ranges_next _ _ _ _ _ _ _ _ _ _ c.loop-j.invariant c.mark_range.ensures.grown
    (c.if-not-mark_range.ensures.out refl) c.nth_range-range.ensures.from c.nth_range-range.ensures.to

pub returns-clause-out : goal.returns-clause-out
returns-clause-out c = λ _. ranges_all _ _ _ _ _ _ _ _ _ _ c.loop-j.invariant (omega arith)
