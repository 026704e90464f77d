-- What stands before the place that is read is the text's, and what is written behind becomes of the rest.
use Rattle.std.proofs.Common.{◌≡◌, ◌≤◌, ◌+◌, ◌++◌, length, take, drop}
use Rattle.shapers_syllabic.specs.Circles.{count_of_kind, with_circles}
use Rattle.shapers_syllabic.proofs.ot_shaper_syllabic.circles.DottedCircles.insert_all.Given as goal

abbrev pub invariant-loop-left : goal.invariant-loop-left
invariant-loop-left l = record {
  room : l.left ≡ count_of_kind l.self.broken_kind (take l.read l.glyphs);
  within : l.read + l.left ≤ length l.glyphs;
  text : with_circles l.self (take l.read l.glyphs) ++ drop (l.read + l.left) l.glyphs
      ≡ with_circles l.self (take l.len l.initial.glyphs);
}

abbrev pub decreases-loop-left : goal.decreases-loop-left
decreases-loop-left l = l.left
