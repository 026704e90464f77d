use Rattle.std.proofs.Common.{◌≡◌, Some, get_or, subst, sym, []}
use Rattle.shapers_spans.specs.Machine.{ends_by}
use Rattle.shapers_spans.proofs.Facts.{kind_none, kind_some}
use Rattle.shapers_spans.proofs.machine.AnyMachine.kind.Goals as goal

pub returns-then-kind : goal.returns-then-kind
returns-then-kind g c =
    let q = c.args.state in
    kind_none (g.T.MachineTables.tables c.args.self.now) q c.requires
    (subst (λ ks. get_or ks q 0 ≡ 255) c.kinds.ensures c.if-kind.true)

pub returns-else-kind : goal.returns-else-kind
returns-else-kind g c =
    let t = g.T.MachineTables.tables c.args.self.now in
    let q = c.args.state in
    subst (λ ks. Some (get_or ks q 0) ≡ ends_by t q []) (sym c.kinds.ensures)
    (kind_some t q c.requires (λ h. c.if-kind.false (subst (λ ks. get_or ks q 0 ≡ 255) (sym c.kinds.ensures) h)))
