use Rattle.opentype_gpos.proofs.Inside.{position_inside}
use Rattle.opentype_gpos.proofs.laws.inside_law.Goals as goal

pub returns : goal.returns
returns c = position_inside
