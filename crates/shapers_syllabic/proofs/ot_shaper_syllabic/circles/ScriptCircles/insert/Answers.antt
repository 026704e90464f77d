use Rattle.std.proofs.Common.{arith}
use Rattle.shapers_syllabic.proofs.CircleLaws.{circles_can_be_erased}
use Rattle.shapers_syllabic.proofs.ot_shaper_syllabic.circles.ScriptCircles.insert.Goals as goal

pub returns-in_ok-insert-in-Some-clause-erased : goal.returns-in_ok-insert-in-Some-clause-erased
returns-in_ok-insert-in-Some-clause-erased = search (arith, circles_can_be_erased)
