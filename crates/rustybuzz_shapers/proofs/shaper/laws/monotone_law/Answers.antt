use Rattle.std.proofs.Common.{arith}
use Rattle.rustybuzz_shapers.proofs.HangulMonotone.{hangul_stays_monotone}
use Rattle.rustybuzz_shapers.proofs.IndicHalves.{indic_keeps_halves}
use Rattle.rustybuzz_shapers.proofs.Monotone.{circles_stay_monotone, exact_cuts_stay_monotone, flags_monotone, marks_stay_monotone, pauses_stay_monotone}
use Rattle.rustybuzz_shapers.proofs.StretchMonotone.{stretch_stays_monotone}
use Rattle.rustybuzz_shapers.proofs.ThaiMonotone.{thai_monotone}
use Rattle.rustybuzz_shapers.proofs.shaper.laws.monotone_law.Goals as goal

pub returns-clause-pauses : goal.returns-clause-pauses
returns-clause-pauses c = pauses_stay_monotone

pub returns-clause-circles : goal.returns-clause-circles
returns-clause-circles c = circles_stay_monotone

pub returns-clause-exact : goal.returns-clause-exact
returns-clause-exact c = exact_cuts_stay_monotone

pub returns-clause-marks : goal.returns-clause-marks
returns-clause-marks c = marks_stay_monotone

pub returns-clause-masks : goal.returns-clause-masks
returns-clause-masks c = flags_monotone

pub returns-clause-indic : goal.returns-clause-indic
returns-clause-indic c = indic_keeps_halves

pub returns-clause-thai : goal.returns-clause-thai
returns-clause-thai = search (arith, thai_monotone)

pub returns-clause-hangul : goal.returns-clause-hangul
returns-clause-hangul c = hangul_stays_monotone

pub returns-clause-stretch : goal.returns-clause-stretch
returns-clause-stretch c = stretch_stays_monotone
