-- What is written, and the glyphs that are left, are the whole.
use Rattle.std.proofs.Common.{◌≡◌, ◌≤◌, ◌++◌, drop, map}
use Rattle.std.specs.Prelude.{vec_capacity}
use Rattle.shapers_normal.specs.Variants.{with_number}
use Rattle.shapers_normal.proofs.ot_shape_normalize.variants.write_kept.Given as goal

abbrev pub invariant-loop-glyph : goal.invariant-loop-glyph
invariant-loop-glyph g l = record {
  text : l.to.items ++ map (with_number (g.C.NormalizeContext.context l.context)) (drop l.glyph-index l.glyphs)
      ≡ l.initial.to.items ++ map (with_number (g.C.NormalizeContext.context l.context)) l.glyphs;
  capacity : vec_capacity l.initial.to ≤ vec_capacity l.to;
}
