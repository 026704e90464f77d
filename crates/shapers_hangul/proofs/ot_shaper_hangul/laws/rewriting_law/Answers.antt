use Rattle.shapers_hangul.proofs.HangulClusters.{rewritten_holds}
use Rattle.shapers_hangul.proofs.ot_shaper_hangul.laws.rewriting_law.Goals as goal

pub returns : goal.returns
returns c = rewritten_holds
