use Rattle.shapers_syllabic.proofs.Serials.{serials_dont_count}
use Rattle.shapers_syllabic.proofs.ot_shaper_syllabic.laws.serials_dont_count.Goals as goal

pub returns : goal.returns
returns c = serials_dont_count
