-- The glyph on its own: its default, its order view, the kind of its syllable.
use Rattle.std.specs.Prelude.{ℕ, ◌-◌, ◌%◌, List, map}
use Rattle.shapers_buffer.specs.Glyphs.{Glyph, Glyphs}
use Rattle.shapers_buffer.specs.declared.buffer.glyph.GlyphPosition.{GlyphPosition}
use Rattle.std.specs.Prelude.{pos}
use Rattle.shapers_buffer.specs.Properties.{no_ligature, no_marks, no_properties}

-- the default glyph: all zero, of category Cc, with no marks
abbrev pub default_glyph : Glyph
default_glyph = record {
  glyph_id = 0;
  mask = 0;
  cluster = 0;
  glyph_props = no_marks;
  lig_props = no_ligature;
  syllable = 0;
  unicode_props = no_properties;
  category = 0;
  auxiliary = 0;
}

-- the default position: all zero
abbrev pub default_position : GlyphPosition
default_position =
    record { x_advance = pos 0; y_advance = pos 0; x_offset = pos 0; y_offset = pos 0; var = 0 }

-- a mask without its three glyph flags, the low three bits
abbrev pub without_flags : ℕ → ℕ
without_flags m = m - m % 8

-- the order view of a glyph: without its cluster and its glyph flags
abbrev pub plain : Glyph → Glyph
plain g = record g { cluster = 0; mask = without_flags g.mask }

-- the order view of a list of glyphs
abbrev pub order_view : Glyphs → Glyphs
order_view gs = map plain gs

-- the clusters of a list of glyphs
abbrev pub clusters : Glyphs → List ℕ
clusters gs = map (λ g. g.cluster) gs

-- the characters of a list of glyphs
abbrev pub characters : Glyphs → List ℕ
characters gs = map (λ g. g.glyph_id) gs

-- the glyph at a position of its syllable
abbrev pub at_position : ℕ → Glyph → Glyph
at_position p g = record g { auxiliary = p }
