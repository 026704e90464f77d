use Rattle.opentype_gsub.proofs.Sighted.{sight_within}
use Rattle.opentype_gsub.proofs.pass.LookupUse.sight_from.Goals as goal

pub returns : goal.returns
returns c = λ gdef lookup is. sight_within gdef lookup c.args.self.now c.args.glyph.now c.args.sight.now _ is c.syllable_from.ensures
