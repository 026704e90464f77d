use Rattle.shapers_spans.proofs.MyanmarMachine.{myanmar_are_tables}
use Rattle.shapers_spans.proofs.myanmar.MyanmarMachineTables.classes.Goals as goal

pub returns-clause-tables : goal.returns-clause-tables
returns-clause-tables c = myanmar_are_tables
