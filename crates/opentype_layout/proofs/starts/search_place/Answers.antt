use Rattle.std.proofs.Common.{arith}
use Rattle.opentype_layout.proofs.Passed.{left_further}
use Rattle.opentype_layout.proofs.starts.search_place.Goals as goal

pub loop-i-preserved : goal.loop-i-preserved
loop-i-preserved c =
    let (within, (behind, left)) = c.loop-i.invariant in (
      omega (arith, within, c.first_in_set-end.ensures.within),
      (
        omega (arith, behind, c.first_in_set-end.ensures.behind, c.if-end-from.false),
        left_further _ _ _ _ _ _ _ _ _ c.first_set.ensures left c.first_in_set-end.ensures.within c.first_in_set-end.ensures.out,
      ),
    )
