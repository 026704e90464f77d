use Rattle.std.proofs.Common.{sym, ◌∙◌, lt-ltb, le-ltb}
use Rattle.std.proofs.lemmas.Bool.{cond-true, cond-false}
use Rattle.shapers_unicode.specs.Table.{table_value}
use Rattle.shapers_unicode.proofs.table.number_of.Goals as goal

pub returns-then-at-index : goal.returns-then-at-index
unfolding table_value
returns-then-at-index g c = sym (cond-true _ _ _ (lt-ltb _ _ c.if-at-index.true))

pub returns-else-at-index : goal.returns-else-at-index
unfolding table_value
returns-else-at-index g c = c.number_in_tail.ensures ∙ sym (cond-false _ _ _ (le-ltb _ _ c.if-at-index.false))
