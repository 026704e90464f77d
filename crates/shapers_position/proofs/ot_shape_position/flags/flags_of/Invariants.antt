-- The flags so far, and those of the rest.
use Rattle.std.proofs.Common.{◌≡◌, ◌%◌, drop}
use Rattle.std.specs.Prelude.{bit_or, fold}
use Rattle.shapers_buffer.specs.Glyphs.{Glyph}
use Rattle.shapers_position.specs.ClusterFlags.{flags_of}
use Rattle.shapers_position.proofs.ot_shape_position.flags.flags_of.Given as goal

abbrev pub invariant-loop-glyph : goal.invariant-loop-glyph
invariant-loop-glyph l =
    fold (λ flags (g : Glyph). bit_or flags (g.mask % 8)) l.flags (drop l.glyph-index l.cluster)
    ≡ flags_of l.cluster
