use Rattle.shapers_spans.proofs.Facts.{ends_next}
use Rattle.shapers_spans.proofs.machine.AnyMachine.next.Goals as goal

pub returns-clause-ends : goal.returns-clause-ends
returns-clause-ends g c w =
    rw (c.rows.ensures, c.row_len.ensures, c.classes.ensures.classes)
    (ends_next (g.T.MachineTables.tables c.args.self.now) c.args.state c.args.category w)
