use Rattle.opentype_gsub.proofs.Sighted.{input_within}
use Rattle.opentype_gsub.proofs.pass.LookupUse.sees_by.Goals as goal

pub returns : goal.returns
returns c = λ lookup is. c.sees_in.ensures lookup (input_within c.args.gdef.now lookup c.args.self.now c.args.sights.now is)
