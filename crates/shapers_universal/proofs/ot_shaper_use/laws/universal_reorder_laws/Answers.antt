use Rattle.shapers_universal.specs.Proved.UniversalSteps.{universal_moves}
use Rattle.shapers_universal.specs.Proved.UniversalView.{universal_laws}
use Rattle.shapers_universal.proofs.ot_shaper_use.laws.universal_reorder_laws.Goals as goal

pub returns-clause-laws : goal.returns-clause-laws
returns-clause-laws c = universal_laws

pub returns-clause-merged : goal.returns-clause-merged
returns-clause-merged c = universal_moves
