use Rattle.std.proofs.Common.{◌≡◌, ◌++◌, map, take, drop}
use Rattle.shapers_buffer.proofs.buffer.walking.change_each_in.Given as goal

abbrev pub invariant-loop-glyph : goal.invariant-loop-glyph
invariant-loop-glyph g l =
    take l.glyph-index l.glyphs ++ map (g.C.GlyphChange.changed l.change) (drop l.glyph-index l.glyphs)
    ≡ map (g.C.GlyphChange.changed l.change) l.initial.glyphs
