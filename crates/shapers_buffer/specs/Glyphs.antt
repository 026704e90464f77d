-- Names for a glyph and for lists of glyphs.
use Rattle.std.specs.Prelude.{List}
use Rattle.shapers_buffer.specs.declared.buffer.glyph.hb_glyph_info_t.{hb_glyph_info_t}

-- a glyph of the buffer
abbrev pub Glyph : Type 0
Glyph = hb_glyph_info_t

-- the glyphs of a text, or of a part of one, in the buffer's order
abbrev pub Glyphs : Type 0
Glyphs = List hb_glyph_info_t
