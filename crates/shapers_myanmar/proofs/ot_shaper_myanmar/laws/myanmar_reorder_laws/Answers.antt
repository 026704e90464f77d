use Rattle.shapers_myanmar.proofs.Inside.{myanmar_merged}
use Rattle.shapers_myanmar.specs.Proved.MyanmarLaws.{myanmar_laws}
use Rattle.shapers_myanmar.proofs.ot_shaper_myanmar.laws.myanmar_reorder_laws.Goals as goal

pub returns-clause-laws : goal.returns-clause-laws
returns-clause-laws c = myanmar_laws

pub returns-clause-merged : goal.returns-clause-merged
returns-clause-merged c = myanmar_merged
