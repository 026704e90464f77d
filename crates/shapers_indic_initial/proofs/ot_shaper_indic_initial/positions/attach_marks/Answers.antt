-- One glyph more, and all.
use Rattle.std.proofs.Common.{arith}
use Rattle.shapers_indic_initial.proofs.MarksAttached.{marks_done}
use Rattle.shapers_indic_initial.proofs.ot_shaper_indic_initial.positions.attach_marks.Goals as goal

pub returns : goal.returns
returns = search (arith, marks_done)
