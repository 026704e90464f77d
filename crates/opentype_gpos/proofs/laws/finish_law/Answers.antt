use Rattle.opentype_gpos.proofs.Keeping.{finish_keeps}
use Rattle.opentype_gpos.proofs.laws.finish_law.Goals as goal

pub returns : goal.returns
returns c = finish_keeps
