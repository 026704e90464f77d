use Rattle.std.proofs.Common.{inl, inr}
use Rattle.opentype_gsub.proofs.Subtables.{set_of_chained, set_of_context}
use Rattle.opentype_gsub.proofs.machine.rule_of.Goals as goal

pub find_rule-requires-clause-set : goal.find_rule-requires-clause-set
find_rule-requires-clause-set c =
    let it = c.args.subtable.now in
    let table = it.context_fits c.in-Some.table c.in-Some.is in
    rw table (elim c.requires.kind [
      | inl e ↦ set_of_context it.set (λ table. table.now.set.now) it.kind it.bytes.now e it.fits
      | inr e ↦ set_of_chained it.set (λ table. table.now.set.now) it.kind it.bytes.now e it.fits
    ])

pub find_rule-requires-in-None-clause-set : goal.find_rule-requires-in-None-clause-set
find_rule-requires-in-None-clause-set c =
    let it = c.args.subtable.now in
    elim c.requires.kind [
      | inl e ↦ set_of_context it.set (λ table. table.now.set.now) it.kind it.bytes.now e it.fits
      | inr e ↦ set_of_chained it.set (λ table. table.now.set.now) it.kind it.bytes.now e it.fits
    ]

pub returns-in-Some : goal.returns-in-Some
returns-in-Some c =
    let table = c.args.subtable.now.context_fits c.in-Some.table c.in-Some.is in
    rw table at c.find_rule.ensures
