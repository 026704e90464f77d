use Rattle.opentype_break_laws.proofs.FontPositions.{lookups_leave, runs_leave, singles_go}
use Rattle.opentype_break_laws.proofs.MarkTexts.{marks_leave, short_marks}
use Rattle.opentype_break_laws.proofs.PairTexts.{short_go, short_texts}
use Rattle.opentype_break_laws.proofs.TextPositions.{staged_break, texts_break}
use Rattle.opentype_break_laws.proofs.font_positions.font_positions_law.Goals as goal

pub returns-clause-lookups : goal.returns-clause-lookups
returns-clause-lookups c = lookups_leave

pub returns-clause-runs : goal.returns-clause-runs
returns-clause-runs c = runs_leave

pub returns-clause-singles : goal.returns-clause-singles
returns-clause-singles c = singles_go

pub returns-clause-pairs : goal.returns-clause-pairs
returns-clause-pairs c = short_texts

pub returns-clause-short : goal.returns-clause-short
returns-clause-short c = short_go

pub returns-clause-marks : goal.returns-clause-marks
returns-clause-marks c = marks_leave

pub returns-clause-short_marks : goal.returns-clause-short_marks
returns-clause-short_marks c = short_marks

pub returns-clause-texts : goal.returns-clause-texts
returns-clause-texts c = texts_break

pub returns-clause-stages : goal.returns-clause-stages
returns-clause-stages c = staged_break c.pipeline_breaks_law.ensures.stages
