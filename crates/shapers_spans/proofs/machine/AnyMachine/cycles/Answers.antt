use Rattle.std.proofs.Common.{◌≡◌, ◌∙◌, Bool, IsTrue, ap, rules, subst, true}
use Rattle.std.specs.Prelude.{nat_lt}
use Rattle.shapers_spans.specs.Machine.{ends_by}
use Rattle.shapers_spans.proofs.Facts.{ends_next}
use Rattle.shapers_spans.proofs.machine.AnyMachine.cycles.Goals as goal

pub returns-clause-stays : goal.returns-clause-stays
returns-clause-stays g c u k j w =
    let it = c.args.self.now in
    let t = g.T.MachineTables.tables it in
    let q = c.args.state in
    let on = is-true (nat_lt (g.T.MachineTables.cycling it).dead q)
    (subst (λ d. IsTrue (nat_lt d q)) c.dead_state.ensures.state u) in
    ends_next t q k w ∙ ap (λ p. ends_by t p w) ((c.dead_state.ensures.tables.cycles q k c.requires).stays on j)
  where
    is-true : (b : Bool) → IsTrue b → b ≡ true
    is-true b i = search rules
