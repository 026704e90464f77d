use Rattle.std.proofs.Common.{arith}
use Rattle.std.proofs.lemmas.List.{take-append-drop}
use Rattle.shapers_syllabic.proofs.CircleLaws.{with_circles-none}
use Rattle.shapers_syllabic.proofs.ot_shaper_syllabic.circles.DottedCircles.insert_all.Goals as goal

-- no broken syllable is left, and what stands in front is in its place
pub returns : goal.returns
returns = search (arith, take-append-drop, with_circles-none)
