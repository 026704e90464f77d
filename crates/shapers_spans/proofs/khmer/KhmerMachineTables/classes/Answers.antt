use Rattle.shapers_spans.proofs.KhmerMachine.{khmer_are_tables}
use Rattle.shapers_spans.proofs.khmer.KhmerMachineTables.classes.Goals as goal

pub returns-clause-tables : goal.returns-clause-tables
returns-clause-tables c = khmer_are_tables
