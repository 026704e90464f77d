use Rattle.shapers_syllabic.proofs.ReorderingCuts.{cuts_at_borders}
use Rattle.shapers_syllabic.proofs.ot_shaper_syllabic.laws.reordering_cuts_at_borders.Goals as goal

pub returns : goal.returns
returns c = cuts_at_borders
