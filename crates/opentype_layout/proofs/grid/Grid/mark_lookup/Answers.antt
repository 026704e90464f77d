use Rattle.std.proofs.Common.{refl}
use Rattle.opentype_layout.proofs.Grids.{lookup_next}
use Rattle.opentype_layout.proofs.grid.Grid.mark_lookup.Goals as goal

pub loop-i-preserved : goal.loop-i-preserved
loop-i-preserved c = lookup_next _ _ _ _ _ _ _ _ _ c.loop-i.invariant c.mark_ranges.ensures.grown
    (c.if-not-mark_ranges.ensures.out refl) c.ranges-in-loop-i.ensures c.first_set.ensures
