-- What is written, and what the glyphs behind become, is the whole.
use Rattle.std.proofs.Common.{◌≡◌, ◌≤◌, ◌++◌, drop}
use Rattle.std.specs.List.{flat_map}
use Rattle.std.specs.Prelude.{vec_capacity}
use Rattle.shapers_normal.specs.Decomposition.{becomes}
use Rattle.shapers_normal.proofs.ot_shape_normalize.decomposing.write_each.Given as goal

abbrev pub invariant-loop-glyph : goal.invariant-loop-glyph
invariant-loop-glyph g l = record {
  text : l.to.items ++ flat_map (becomes (g.C.NormalizeContext.context l.context) l.way) (drop l.glyph-index l.glyphs)
      ≡ l.initial.to.items ++ flat_map (becomes (g.C.NormalizeContext.context l.context) l.way) l.glyphs;
  capacity : vec_capacity l.initial.to ≤ vec_capacity l.to;
}
