use Rattle.shapers_equivalence_laws.proofs.StayingForms.{texts_stay}
use Rattle.shapers_equivalence_laws.proofs.laws.staying_law.Goals as goal

pub returns : goal.returns
returns c = texts_stay
