use Rattle.std.proofs.Common.{◌≡◌, ◌++◌, map, take, drop}
use Rattle.shapers_buffer.specs.GlyphFlags.{with_bits_off}
use Rattle.shapers_buffer.proofs.buffer.glyph_flags.flag.Given as goal

abbrev pub invariant-loop-glyph : goal.invariant-loop-glyph
invariant-loop-glyph l =
    take l.glyph-index l.stretch ++ map (with_bits_off l.bits l.least) (drop l.glyph-index l.stretch)
    ≡ map (with_bits_off l.bits l.least) l.initial.stretch
