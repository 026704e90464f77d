use Rattle.shapers_normal.proofs.Halves.{comes_apart_in_halves}
use Rattle.shapers_normal.proofs.ot_shape_normalize.laws.halves_law.Goals as goal

pub returns : goal.returns
returns c = comes_apart_in_halves
