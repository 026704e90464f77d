-- The room that is left, and what the text behind becomes.
use Rattle.std.proofs.Common.{◌≡◌, ◌≤◌, ◌+◌, ◌-◌, drop, length}
use Rattle.shapers_normal.specs.Decomposition.{text_decomposed}
use Rattle.shapers_normal.proofs.ot_shape_normalize.decomposing.measure.Given as goal

abbrev pub invariant-loop-start : goal.invariant-loop-start
invariant-loop-start g l = record {
  room : l.limit + length (text_decomposed (g.C.NormalizeContext.context l.context) (drop l.start l.glyphs))
      ≡ l.room + length (text_decomposed (g.C.NormalizeContext.context l.context) l.glyphs);
  few : l.room ≤ l.limit;
  within : l.start ≤ length l.glyphs;
}

abbrev pub decreases-loop-start : goal.decreases-loop-start
decreases-loop-start g l = length l.glyphs - l.start
