use Rattle.shapers_equivalence_laws.proofs.ShapersProved.{shapers_keep, shapers_normalize}
use Rattle.shapers_equivalence_laws.proofs.laws.shapers_law.Goals as goal

pub returns : goal.returns
returns c = record { ordered = shapers_normalize; short = shapers_keep }
