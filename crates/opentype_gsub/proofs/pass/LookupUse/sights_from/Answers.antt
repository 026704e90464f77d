use Rattle.opentype_gsub.proofs.Sighted.{sighted_from}
use Rattle.opentype_gsub.proofs.pass.LookupUse.sights_from.Goals as goal

pub returns : goal.returns
returns c = λ gdef lookup is. sighted_from gdef lookup c.args.self.now c.args.glyph.now c.args.sights.now _ is c.syllable_from-syllable.ensures
