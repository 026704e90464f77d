use Rattle.shapers_break_laws.proofs.ScriptBreaks.{pauses_break}
use Rattle.shapers_break_laws.proofs.pauses_break_law.Goals as goal

pub returns : goal.returns
returns c = pauses_break
