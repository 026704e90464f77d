use Rattle.opentype_gpos.proofs.Keeping.{position_keeps}
use Rattle.opentype_gpos.proofs.laws.position_law.Goals as goal

pub returns : goal.returns
returns c = position_keeps
