use Rattle.shapers_normal.proofs.Halves.{in_halves}
use Rattle.shapers_normal.proofs.ot_shape_normalize.laws.normalization_halves_law.Goals as goal

pub returns : goal.returns
returns c = in_halves
