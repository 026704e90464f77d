use Rattle.std.proofs.Common.{refl}
use Rattle.shapers_spans.specs.KhmerMachine.{khmer_cycling}
use Rattle.shapers_spans.proofs.KhmerMachine.{khmer_are_tables}
use Rattle.shapers_spans.proofs.khmer.KhmerMachineTables.dead_state.Goals as goal

pub returns-clause-state : goal.returns-clause-state
unfolding khmer_cycling
returns-clause-state c = refl

pub returns-clause-tables : goal.returns-clause-tables
returns-clause-tables c = khmer_are_tables
