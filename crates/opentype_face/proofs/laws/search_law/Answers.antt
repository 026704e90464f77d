use Rattle.opentype_face.proofs.SearchOrder.{search_law}
use Rattle.opentype_face.proofs.laws.search_law.Goals as goal

pub returns : goal.returns
returns c = search_law
