use Rattle.opentype_layout.proofs.Grids.{same_kind}
use Rattle.opentype_layout.proofs.RowMarks.{column_of}
use Rattle.opentype_layout.proofs.starts.Starts.mark_rows.Goals as goal

pub returns-clause-out : goal.returns-clause-out
returns-clause-out c = λ on.
    (let same = same_kind c.args.of_gpos c.self.inside.of_gpos c.if-of_gpos-self.false in
    column_of _ _ _ _ _ _
    (rw (same, c.self.view_is) at (c.self.invariant.1.1 c.if-not-self.false))
    (rw c.deref.ensures.value at (c.mark_column.ensures.out on)))
