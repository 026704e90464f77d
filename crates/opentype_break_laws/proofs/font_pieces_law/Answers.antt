use Rattle.opentype_break_laws.proofs.FontPieces.{lookups_leave, one_for_one_goes, runs_leave, texts_break}
use Rattle.opentype_break_laws.proofs.LigatureNumbers.{presence_compares}
use Rattle.opentype_break_laws.proofs.font_pieces_law.Goals as goal

pub returns-clause-lookups : goal.returns-clause-lookups
returns-clause-lookups c = lookups_leave

pub returns-clause-runs : goal.returns-clause-runs
returns-clause-runs c = runs_leave

pub returns-clause-one_for_one : goal.returns-clause-one_for_one
returns-clause-one_for_one c = one_for_one_goes

pub returns-clause-texts : goal.returns-clause-texts
returns-clause-texts c = texts_break c.pipeline_breaks_law.ensures.texts

pub returns-clause-presence : goal.returns-clause-presence
returns-clause-presence c = presence_compares
