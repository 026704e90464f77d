use Rattle.opentype_gsub.proofs.LawGrows.{glyphs_grow_by}
use Rattle.opentype_gsub.proofs.laws.growth_law.Goals as goal

pub returns : goal.returns
returns c = glyphs_grow_by
