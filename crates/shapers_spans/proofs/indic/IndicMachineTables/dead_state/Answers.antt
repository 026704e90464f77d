use Rattle.std.proofs.Common.{refl}
use Rattle.shapers_spans.specs.IndicMachine.{indic_cycling}
use Rattle.shapers_spans.proofs.IndicMachine.{indic_are_tables}
use Rattle.shapers_spans.proofs.indic.IndicMachineTables.dead_state.Goals as goal

pub returns-clause-state : goal.returns-clause-state
unfolding indic_cycling
returns-clause-state c = refl

pub returns-clause-tables : goal.returns-clause-tables
returns-clause-tables c = indic_are_tables
