use Rattle.shapers_khmer.specs.Proved.KhmerLaws.{khmer_laws, khmer_moves_merged}
use Rattle.shapers_khmer.proofs.ot_shaper_khmer.laws.khmer_reorder_laws.Goals as goal

pub returns-clause-laws : goal.returns-clause-laws
returns-clause-laws c = khmer_laws

pub returns-clause-merged : goal.returns-clause-merged
returns-clause-merged c = λ gs. (khmer_moves_merged gs, tt)
