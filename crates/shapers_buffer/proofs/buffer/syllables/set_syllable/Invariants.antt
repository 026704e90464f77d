use Rattle.std.proofs.Common.{◌≡◌, ◌++◌, map, take, drop}
use Rattle.shapers_buffer.specs.Syllables.{in_syllable}
use Rattle.shapers_buffer.proofs.buffer.syllables.set_syllable.Given as goal

abbrev pub invariant-loop-glyph : goal.invariant-loop-glyph
invariant-loop-glyph l = take l.glyph-index l.glyphs ++ map (in_syllable l.byte) (drop l.glyph-index l.glyphs)
    ≡ map (in_syllable l.byte) l.initial.glyphs
