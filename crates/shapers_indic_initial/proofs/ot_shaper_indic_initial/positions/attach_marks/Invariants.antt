-- The glyphs that are done, and what becomes of the rest.
use Rattle.std.proofs.Common.{◌≡◌, ◌++◌, take, drop}
use Rattle.shapers_indic_initial.specs.MarkWalk.{marks_from}
use Rattle.shapers_indic_initial.proofs.ot_shaper_indic_initial.positions.attach_marks.Given as goal

abbrev pub invariant-loop-i : goal.invariant-loop-i
invariant-loop-i l = take l.i l.glyphs ++ marks_from l.carrier l.behind (drop l.i l.glyphs)
    ≡ marks_from 0 2 l.initial.glyphs
