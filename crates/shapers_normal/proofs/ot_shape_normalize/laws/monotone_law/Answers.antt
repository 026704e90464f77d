use Rattle.shapers_normal.proofs.Monotone.{stays_monotone}
use Rattle.shapers_normal.proofs.ot_shape_normalize.laws.monotone_law.Goals as goal

pub returns : goal.returns
returns c = stays_monotone
