use Rattle.shapers_normal.proofs.VariantHalves.{grows_ninefold}
use Rattle.shapers_normal.proofs.ot_shape_normalize.laws.length_bound.Goals as goal

pub returns-clause-law : goal.returns-clause-law
returns-clause-law c = grows_ninefold
