use Rattle.std.proofs.Common.{◌≡◌, ◌++◌, map, take, drop}
use Rattle.shapers_buffer.specs.GlyphFlags.{with_bits}
use Rattle.shapers_buffer.proofs.buffer.glyph_flags.flag_all.Given as goal

abbrev pub invariant-loop-glyph : goal.invariant-loop-glyph
invariant-loop-glyph l = take l.glyph-index l.stretch ++ map (with_bits l.bits) (drop l.glyph-index l.stretch)
    ≡ map (with_bits l.bits) l.initial.stretch
