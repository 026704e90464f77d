-- What is flagged so far, and what is left.
use Rattle.shapers_text.proofs.ThaiWholeMarks.{FlaggingWhole}
use Rattle.shapers_text.proofs.ot_shaper_thai.forms.flag_whole_marks.Given as goal

abbrev pub invariant-loop-i : goal.invariant-loop-i
invariant-loop-i l = FlaggingWhole l.initial.glyphs l.glyphs l.i l.base
