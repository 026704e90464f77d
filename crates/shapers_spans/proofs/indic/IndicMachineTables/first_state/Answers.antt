use Rattle.std.proofs.Common.{refl}
use Rattle.shapers_spans.specs.Indic.{indic_grammar}
use Rattle.shapers_spans.proofs.IndicMachine.{indic_are_tables}
use Rattle.shapers_spans.proofs.indic.IndicMachineTables.first_state.Goals as goal

pub returns-clause-passes : goal.returns-clause-passes
unfolding indic_grammar
returns-clause-passes c = refl

pub returns-clause-tables : goal.returns-clause-tables
returns-clause-tables c = indic_are_tables
