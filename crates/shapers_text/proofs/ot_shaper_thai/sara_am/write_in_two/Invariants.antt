-- What is unwritten, and what is written behind it, is the whole.
use Rattle.std.proofs.Common.{None, take}
use Rattle.shapers_text.specs.Thai.{glyphs_in_two}
use Rattle.shapers_text.specs.ThaiWalk.{Written}
use Rattle.shapers_text.proofs.ot_shaper_thai.sara_am.write_in_two.Given as goal

abbrev pub invariant-loop-unwritten : goal.invariant-loop-unwritten
invariant-loop-unwritten l =
    Written (glyphs_in_two (take l.len l.initial.glyphs)) l.glyphs l.unwritten.end None l.unwritten.place

abbrev pub decreases-loop-unwritten : goal.decreases-loop-unwritten
decreases-loop-unwritten l = l.unwritten.end
