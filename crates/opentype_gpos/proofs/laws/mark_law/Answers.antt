use Rattle.opentype_gpos.proofs.MarkKeeping.{marks_keep}
use Rattle.opentype_gpos.proofs.laws.mark_law.Goals as goal

pub returns : goal.returns
returns c = marks_keep
