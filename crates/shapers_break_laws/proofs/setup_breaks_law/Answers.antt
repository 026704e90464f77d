use Rattle.shapers_break_laws.proofs.Setup.{setup_breaks}
use Rattle.shapers_break_laws.proofs.setup_breaks_law.Goals as goal

pub returns : goal.returns
returns c = setup_breaks
