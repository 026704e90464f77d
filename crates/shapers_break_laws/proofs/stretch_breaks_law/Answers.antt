use Rattle.shapers_break_laws.proofs.StretchBreaks.{stretch_breaks}
use Rattle.shapers_break_laws.proofs.stretch_breaks_law.Goals as goal

pub returns : goal.returns
returns c = stretch_breaks
