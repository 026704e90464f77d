use Rattle.shapers_syllabic.proofs.ReorderingLaws.{text_reordered}
use Rattle.shapers_syllabic.proofs.ot_shaper_syllabic.laws.text_reordered_law.Goals as goal

pub returns : goal.returns
returns c = text_reordered
