use Rattle.shapers_normal.proofs.DecompositionLaws.{parts_are_drawn}
use Rattle.shapers_normal.proofs.ot_shape_normalize.laws.parts_law.Goals as goal

pub returns : goal.returns
returns c = parts_are_drawn
