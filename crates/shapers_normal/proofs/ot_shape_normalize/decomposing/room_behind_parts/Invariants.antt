-- The room that is left, and what the glyphs behind become.
use Rattle.std.proofs.Common.{◌≡◌, ◌+◌, drop, length}
use Rattle.std.specs.List.{flat_map}
use Rattle.shapers_normal.specs.Decomposition.{becomes}
use Rattle.shapers_normal.proofs.ot_shape_normalize.decomposing.room_behind_parts.Given as goal

abbrev pub invariant-loop-glyph : goal.invariant-loop-glyph
invariant-loop-glyph g l =
    l.room + length (flat_map (becomes (g.C.NormalizeContext.context l.context) l.way) (drop l.glyph-index l.glyphs))
    ≡ l.left + length (flat_map (becomes (g.C.NormalizeContext.context l.context) l.way) l.glyphs)
