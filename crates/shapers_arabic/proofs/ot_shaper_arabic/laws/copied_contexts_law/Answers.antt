-- The law of copied contexts.
use Rattle.shapers_arabic.proofs.JoiningLaws.{copied-show, copied-cut}
use Rattle.shapers_arabic.proofs.ot_shaper_arabic.laws.copied_contexts_law.Goals as goal

pub returns-clause-shown : goal.returns-clause-shown
returns-clause-shown c = copied-show

pub returns-clause-halves : goal.returns-clause-halves
returns-clause-halves c = copied-cut
