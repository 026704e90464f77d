use Rattle.shapers_break_laws.proofs.MarkBreaks.{marks_break}
use Rattle.shapers_break_laws.proofs.marks_break_law.Goals as goal

pub returns : goal.returns
returns c = marks_break
