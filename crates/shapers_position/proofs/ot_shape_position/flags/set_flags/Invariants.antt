-- The glyphs that are done, and what becomes of the rest.
use Rattle.std.proofs.Common.{◌≡◌, ◌++◌, drop, map, take}
use Rattle.shapers_position.specs.ClusterFlags.{with_flags}
use Rattle.shapers_position.proofs.ot_shape_position.flags.set_flags.Given as goal

abbrev pub invariant-loop-glyph : goal.invariant-loop-glyph
invariant-loop-glyph l =
    take l.glyph-index l.cluster ++ map (with_flags l.flags) (drop l.glyph-index l.cluster)
    ≡ map (with_flags l.flags) l.initial.cluster
