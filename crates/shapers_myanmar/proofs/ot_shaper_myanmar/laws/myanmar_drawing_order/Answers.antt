use Rattle.shapers_myanmar.proofs.Drawing as proofs
use Rattle.shapers_myanmar.proofs.ot_shaper_myanmar.laws.myanmar_drawing_order.Goals as goal

pub returns : goal.returns
returns c = proofs.myanmar_drawing_order
