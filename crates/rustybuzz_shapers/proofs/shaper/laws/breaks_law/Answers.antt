use Rattle.rustybuzz_shapers.proofs.Breaks.{texts_break}
use Rattle.rustybuzz_shapers.proofs.Edited.{texts_stay_near}
use Rattle.rustybuzz_shapers.proofs.Together.{texts_concatenate}
use Rattle.rustybuzz_shapers.proofs.shaper.laws.breaks_law.Goals as goal

pub returns-clause-texts : goal.returns-clause-texts
returns-clause-texts c = texts_break

pub returns-clause-texts_together : goal.returns-clause-texts_together
returns-clause-texts_together c = texts_concatenate

pub returns-clause-texts_edited : goal.returns-clause-texts_edited
returns-clause-texts_edited c = texts_stay_near
