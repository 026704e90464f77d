use Rattle.rustybuzz_shapers.proofs.Lengths.{pauses_grow, preprocessing_grows}
use Rattle.rustybuzz_shapers.proofs.shaper.laws.lengths_law.Goals as goal

pub returns-clause-preprocessing : goal.returns-clause-preprocessing
returns-clause-preprocessing c = preprocessing_grows

pub returns-clause-pauses : goal.returns-clause-pauses
returns-clause-pauses c = pauses_grow
