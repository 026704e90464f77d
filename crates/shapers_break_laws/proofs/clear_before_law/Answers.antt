use Rattle.shapers_break_laws.proofs.ClearSteps.{clear_before}
use Rattle.shapers_break_laws.proofs.clear_before_law.Goals as goal

pub returns : goal.returns
returns c = clear_before
