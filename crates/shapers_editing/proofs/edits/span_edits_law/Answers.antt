use Rattle.shapers_editing.proofs.SpanEdits.{behind-edit, in-front, one-cut}
use Rattle.shapers_editing.proofs.edits.span_edits_law.Goals as goal

pub returns-clause-front : goal.returns-clause-front
returns-clause-front c = in-front

pub returns-clause-back : goal.returns-clause-back
returns-clause-back c = behind-edit

pub returns-clause-one : goal.returns-clause-one
returns-clause-one c = one-cut
