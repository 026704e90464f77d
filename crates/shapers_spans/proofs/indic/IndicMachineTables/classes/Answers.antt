use Rattle.shapers_spans.proofs.IndicMachine.{indic_are_tables}
use Rattle.shapers_spans.proofs.indic.IndicMachineTables.classes.Goals as goal

pub returns-clause-tables : goal.returns-clause-tables
returns-clause-tables c = indic_are_tables
