use Rattle.opentype_gsub.proofs.LawKeeps.{glyphs_keep}
use Rattle.opentype_gsub.proofs.laws.cluster_law.Goals as goal

pub returns : goal.returns
returns c = glyphs_keep
