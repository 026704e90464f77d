use Rattle.shapers_syllabic.proofs.PauseCuts.{pauses_cut}
use Rattle.shapers_syllabic.proofs.ot_shaper_syllabic.laws.pauses_cut_law.Goals as goal

pub returns : goal.returns
returns c = pauses_cut
