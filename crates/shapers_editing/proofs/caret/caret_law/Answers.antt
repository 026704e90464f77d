use Rattle.shapers_editing.proofs.Carets.{borders-were, each-stops, stops-map}
use Rattle.shapers_editing.proofs.caret.caret_law.Goals as goal

pub returns-clause-map : goal.returns-clause-map
returns-clause-map c = stops-map

pub returns-clause-borders : goal.returns-clause-borders
returns-clause-borders c = borders-were

pub returns-clause-each : goal.returns-clause-each
returns-clause-each c = each-stops
