use Rattle.opentype_layout.proofs.Headed.{are_heads}
use Rattle.opentype_layout.proofs.starts.mark_with_heads.Goals as goal

pub returns-in-Some-clause-heads : goal.returns-in-Some-clause-heads
returns-in-Some-clause-heads c = are_heads _ _ _ _ _ _ c.in_ok-marks.ensures
    (rw (c.deref.ensures.value, c.subtable_count-count.ensures) at c.in-Some.ensures)
