use Rattle.opentype_face.proofs.CoveragePlaces.{coverage_law}
use Rattle.opentype_face.proofs.laws.coverage_law.Goals as goal

pub returns : goal.returns
returns c = coverage_law
