use Rattle.shapers_equivalence_laws.proofs.Proved.{runs_normalize}
use Rattle.shapers_equivalence_laws.proofs.laws.sequences_law.Goals as goal

pub returns : goal.returns
returns c = runs_normalize
