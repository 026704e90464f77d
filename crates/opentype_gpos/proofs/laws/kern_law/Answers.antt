use Rattle.opentype_gpos.proofs.KernKeeping.{kern_keeps}
use Rattle.opentype_gpos.proofs.laws.kern_law.Goals as goal

pub returns : goal.returns
returns c = kern_keeps
