use Rattle.shapers_hangul.proofs.HangulSpelling.{spells}
use Rattle.shapers_hangul.proofs.ot_shaper_hangul.laws.spelling_law.Goals as goal

pub returns : goal.returns
returns c = spells
