-- What is written, and what the text behind becomes, is the whole.
use Rattle.std.proofs.Common.{◌≡◌, ◌≤◌, ◌++◌, ◌-◌, drop, length}
use Rattle.std.specs.Prelude.{vec_capacity}
use Rattle.shapers_normal.specs.Decomposition.{text_decomposed}
use Rattle.shapers_normal.proofs.ot_shape_normalize.decomposing.write_text.Given as goal

abbrev pub invariant-loop-start : goal.invariant-loop-start
invariant-loop-start g l = record {
  text : l.to.items ++ text_decomposed (g.C.NormalizeContext.context l.context) (drop l.start l.glyphs)
      ≡ l.initial.to.items ++ text_decomposed (g.C.NormalizeContext.context l.context) l.glyphs;
  capacity : vec_capacity l.initial.to ≤ vec_capacity l.to;
  within : l.start ≤ length l.glyphs;
}

abbrev pub decreases-loop-start : goal.decreases-loop-start
decreases-loop-start g l = length l.glyphs - l.start
