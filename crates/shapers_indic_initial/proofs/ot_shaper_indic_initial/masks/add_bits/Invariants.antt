-- The glyphs that are done, and what becomes of the rest.
use Rattle.std.proofs.Common.{◌≡◌, ◌++◌, map, take, drop}
use Rattle.shapers_buffer.specs.GlyphFlags.{with_bits}
use Rattle.shapers_indic_initial.proofs.ot_shaper_indic_initial.masks.add_bits.Given as goal

abbrev pub invariant-loop-glyph : goal.invariant-loop-glyph
invariant-loop-glyph l = take l.glyph-index l.glyphs ++ map (with_bits l.bits) (drop l.glyph-index l.glyphs)
    ≡ map (with_bits l.bits) l.initial.glyphs
