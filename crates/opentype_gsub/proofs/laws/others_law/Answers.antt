use Rattle.opentype_gsub.proofs.LawKeeps.{others_keep}
use Rattle.opentype_gsub.proofs.laws.others_law.Goals as goal

pub returns : goal.returns
returns c = others_keep
