use Rattle.std.proofs.Common.{◌∙◌, ap}
use Rattle.opentype_layout.specs.Rules.{Kind, set_in}
use Rattle.opentype_layout.proofs.ContextKinds.{kind_chained, same_rules}
use Rattle.opentype_layout.proofs.context_tables.ContextTable.first_of.Goals as goal

pub first_rule-requires-clause-prepared : goal.first_rule-requires-clause-prepared
first_rule-requires-clause-prepared c =
    let at = c.place_of_rules-at_count.ensures.value in
    same_rules c.prepared-prepared.result (λ it. it.now) _ _ _ _
    (ap (λ (k : Kind). k.chained) (rw (← c.self.view_is) at c.tables.ensures) ∙ kind_chained _ _)
    (c.rule_set-set.ensures ∙ ap (λ at. set_in c.self.inside.bytes.now at c.args.number) at)
    (rw (← c.self.view_is) at c.prepared-prepared.ensures)
