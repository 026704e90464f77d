use Rattle.std.proofs.Common.{refl}
use Rattle.shapers_spans.specs.MyanmarMachine.{myanmar_cycling}
use Rattle.shapers_spans.proofs.MyanmarMachine.{myanmar_are_tables}
use Rattle.shapers_spans.proofs.myanmar.MyanmarMachineTables.dead_state.Goals as goal

pub returns-clause-state : goal.returns-clause-state
unfolding myanmar_cycling
returns-clause-state c = refl

pub returns-clause-tables : goal.returns-clause-tables
returns-clause-tables c = myanmar_are_tables
