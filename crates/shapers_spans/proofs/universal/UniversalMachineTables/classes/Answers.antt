use Rattle.shapers_spans.proofs.UniversalMachine.{universal_are_tables}
use Rattle.shapers_spans.proofs.universal.UniversalMachineTables.classes.Goals as goal

pub returns-clause-tables : goal.returns-clause-tables
returns-clause-tables c = universal_are_tables
