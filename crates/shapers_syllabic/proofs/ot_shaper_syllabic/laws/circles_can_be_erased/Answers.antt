use Rattle.shapers_syllabic.proofs.CircleLaws.{circles_can_be_erased}
use Rattle.shapers_syllabic.proofs.ot_shaper_syllabic.laws.circles_can_be_erased.Goals as goal

pub returns : goal.returns
returns c = circles_can_be_erased
