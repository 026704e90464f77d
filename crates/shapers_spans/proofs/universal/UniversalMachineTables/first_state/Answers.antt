use Rattle.std.proofs.Common.{refl}
use Rattle.shapers_spans.specs.Universal.{universal_grammar}
use Rattle.shapers_spans.proofs.UniversalMachine.{universal_are_tables}
use Rattle.shapers_spans.proofs.universal.UniversalMachineTables.first_state.Goals as goal

pub returns-clause-passes : goal.returns-clause-passes
unfolding universal_grammar
returns-clause-passes c = refl

pub returns-clause-tables : goal.returns-clause-tables
returns-clause-tables c = universal_are_tables
