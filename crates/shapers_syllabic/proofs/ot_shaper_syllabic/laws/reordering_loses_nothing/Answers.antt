use Rattle.shapers_syllabic.proofs.ReorderingLaws.{nothing_lost}
use Rattle.shapers_syllabic.proofs.ot_shaper_syllabic.laws.reordering_loses_nothing.Goals as goal

pub returns : goal.returns
returns c = nothing_lost
