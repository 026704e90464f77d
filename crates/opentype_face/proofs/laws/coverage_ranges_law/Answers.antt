use Rattle.opentype_face.proofs.CoveragePlaces.{coverage_ranges_law}
use Rattle.opentype_face.proofs.laws.coverage_ranges_law.Goals as goal

pub returns : goal.returns
returns c = coverage_ranges_law
