use Rattle.std.proofs.Common.{refl}
use Rattle.shapers_spans.specs.Myanmar.{myanmar_grammar}
use Rattle.shapers_spans.proofs.MyanmarMachine.{myanmar_are_tables}
use Rattle.shapers_spans.proofs.myanmar.MyanmarMachineTables.first_state.Goals as goal

pub returns-clause-passes : goal.returns-clause-passes
unfolding myanmar_grammar
returns-clause-passes c = refl

pub returns-clause-tables : goal.returns-clause-tables
returns-clause-tables c = myanmar_are_tables
