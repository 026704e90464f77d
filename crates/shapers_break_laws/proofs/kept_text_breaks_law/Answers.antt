use Rattle.shapers_break_laws.proofs.KeptTextBreaks.{text_breaks, text_breaks_apart}
use Rattle.shapers_break_laws.proofs.kept_text_breaks_law.Goals as goal

pub returns-clause-monotone : goal.returns-clause-monotone
returns-clause-monotone c = text_breaks

pub returns-clause-apart : goal.returns-clause-apart
returns-clause-apart c = text_breaks_apart
