-- A text's glyphs by their places.
use Rattle.std.specs.Prelude.{ℕ, slice_index_or}
use Rattle.shapers_buffer.specs.Glyphs.{Glyph, Glyphs}
use Rattle.shapers_buffer.specs.Glyph.{default_glyph}

-- the glyph at a place; behind the end the default one
abbrev pub glyph_at : Glyphs → ℕ → Glyph
glyph_at gs at = slice_index_or gs at default_glyph
