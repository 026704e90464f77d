use Rattle.std.proofs.Common.{refl}
use Rattle.shapers_spans.specs.UniversalMachine.{universal_cycling}
use Rattle.shapers_spans.proofs.UniversalMachine.{universal_are_tables}
use Rattle.shapers_spans.proofs.universal.UniversalMachineTables.dead_state.Goals as goal

pub returns-clause-state : goal.returns-clause-state
unfolding universal_cycling
returns-clause-state c = refl

pub returns-clause-tables : goal.returns-clause-tables
returns-clause-tables c = universal_are_tables
