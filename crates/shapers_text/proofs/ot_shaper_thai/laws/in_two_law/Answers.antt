use Rattle.shapers_text.proofs.ThaiClusters.{in_two_holds}
use Rattle.shapers_text.proofs.ot_shaper_thai.laws.in_two_law.Goals as goal

pub returns : goal.returns
returns c = in_two_holds
