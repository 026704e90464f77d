use Rattle.std.proofs.Common.{refl}
use Rattle.shapers_spans.specs.Khmer.{khmer_grammar}
use Rattle.shapers_spans.proofs.KhmerMachine.{khmer_are_tables}
use Rattle.shapers_spans.proofs.khmer.KhmerMachineTables.first_state.Goals as goal

pub returns-clause-passes : goal.returns-clause-passes
unfolding khmer_grammar
returns-clause-passes c = refl

pub returns-clause-tables : goal.returns-clause-tables
returns-clause-tables c = khmer_are_tables
