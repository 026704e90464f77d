-- What is written, and the parts that are left, are the whole.
use Rattle.std.proofs.Common.{◌≡◌, ◌≤◌, ◌++◌, drop, map}
use Rattle.std.specs.Prelude.{vec_capacity}
use Rattle.shapers_normal.specs.Decomposition.{as_part}
use Rattle.shapers_normal.proofs.ot_shape_normalize.decomposing.write_parts.Given as goal

abbrev pub invariant-loop-c : goal.invariant-loop-c
invariant-loop-c g l = record {
  text : l.to.items ++ map (as_part (g.C.NormalizeContext.context l.context) l.glyph) (drop l.c-index l.parts)
      ≡ l.initial.to.items ++ map (as_part (g.C.NormalizeContext.context l.context) l.glyph) l.parts;
  capacity : vec_capacity l.initial.to ≤ vec_capacity l.to;
}
