use Rattle.opentype_gpos.proofs.Marks.{IsZeroing}
use Rattle.opentype_gpos.proofs.fallback.zero_marks.Given as goal

abbrev pub invariant-loop-i : goal.invariant-loop-i
invariant-loop-i l = IsZeroing l.direction l.glyphs l.start l.end l.fn.positions l.i l.positions
