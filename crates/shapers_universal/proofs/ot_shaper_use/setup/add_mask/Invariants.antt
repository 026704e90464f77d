-- What is done and what becomes of the rest.
use Rattle.std.proofs.Common.{◌≡◌, ◌++◌, map, take, drop}
use Rattle.shapers_buffer.specs.GlyphFlags.{with_bits}
use Rattle.shapers_universal.proofs.ot_shaper_use.setup.add_mask.Given as goal

abbrev pub invariant-loop-glyph : goal.invariant-loop-glyph
invariant-loop-glyph l = take l.glyph-index l.glyphs ++ map (with_bits l.mask) (drop l.glyph-index l.glyphs)
    ≡ map (with_bits l.mask) l.initial.glyphs
