-- What is left of the walk leads to the text recomposed.
use Rattle.std.proofs.Common.{◌-◌, length}
use Rattle.shapers_normal.proofs.Gaps.{Recomposing}
use Rattle.shapers_normal.proofs.ot_shape_normalize.recomposing.recompose_in.Given as goal

abbrev pub invariant-loop-place : goal.invariant-loop-place
invariant-loop-place g l =
    Recomposing (g.C.NormalizeContext.context l.context) l.level l.initial.glyphs l.glyphs l.place

abbrev pub decreases-loop-place : goal.decreases-loop-place
decreases-loop-place g l = length l.initial.glyphs - l.place.from
