use Rattle.opentype_layout.proofs.ContextKinds.{kind_is}
use Rattle.opentype_layout.proofs.context_tables.ContextTable.tables.Goals as goal

pub returns : goal.returns
returns c =
    let is = c.self.invariant in
    rw (← c.self.view_is) (rw (c.prepared.ensures, c.prepared-2.ensures, c.prepared-3.ensures)
    (kind_is _ _ _ _ _ _ is.0 is.1.0 is.1.1.0 is.1.1.1.0))
