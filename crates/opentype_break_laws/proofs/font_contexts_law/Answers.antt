use Rattle.opentype_break_laws.proofs.ContextPieces.{contexts_leave, short_texts}
use Rattle.opentype_break_laws.proofs.ContextRuns.{runs_leave}
use Rattle.opentype_break_laws.proofs.font_contexts_law.Goals as goal

pub returns-clause-pieces : goal.returns-clause-pieces
returns-clause-pieces c = contexts_leave

pub returns-clause-short : goal.returns-clause-short
returns-clause-short c = short_texts

pub returns-clause-runs : goal.returns-clause-runs
returns-clause-runs c = runs_leave
