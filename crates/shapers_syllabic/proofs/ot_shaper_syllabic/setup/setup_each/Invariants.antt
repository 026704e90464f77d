use Rattle.std.proofs.Common.{◌≡◌, ◌++◌, map, take, drop}
use Rattle.shapers_buffer.specs.GlyphFlags.{with_bits_off}
use Rattle.shapers_buffer.specs.Syllables.{in_syllable}
use Rattle.shapers_syllabic.proofs.ot_shaper_syllabic.setup.setup_each.Given as goal

abbrev pub invariant-loop-glyph : goal.invariant-loop-glyph
invariant-loop-glyph l =
    take l.glyph-index l.glyphs ++ map (λ g. with_bits_off 3 l.least (in_syllable l.byte g))
    (drop l.glyph-index l.glyphs) ≡ map (λ g. with_bits_off 3 l.least (in_syllable l.byte g)) l.initial.glyphs
