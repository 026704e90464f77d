use Rattle.opentype_gpos.proofs.Following.{unattached}
use Rattle.opentype_gpos.proofs.finish.follow.Goals as goal

pub returns-then-is_loose : goal.returns-then-is_loose
returns-then-is_loose c = unattached _ _ _ (cc)
