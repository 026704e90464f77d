-- Where no mark modifies a letter, all stay.
use Rattle.std.proofs.Common.{arith}
use Rattle.shapers_arabic.proofs.MarkLists.{unmodified}
use Rattle.shapers_arabic.proofs.ot_shaper_arabic.marks.reorder_modifiers.Goals as goal

pub returns-then-not-has_modifier-clause-marks : goal.returns-then-not-has_modifier-clause-marks
returns-then-not-has_modifier-clause-marks = search (arith, unmodified)
