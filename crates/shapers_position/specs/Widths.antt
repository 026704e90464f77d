-- Advances by the font, and marks that don't move the pen.
use Rattle.std.specs.Prelude.{min, ℤ, pos, ◌-ℤ◌, Bool, List, map, if◌then◌else◌}
use Rattle.std.specs.List.{zip}
use Rattle.std.specs.Int.{saturate_to_bits}
use Rattle.shapers_base.specs.declared.font.GlyphId.{GlyphId}
use Rattle.shapers_base.specs.Font.{Font}
use Rattle.shapers_buffer.specs.declared.buffer.glyph.GlyphPosition.{GlyphPosition}
use Rattle.shapers_buffer.specs.Glyphs.{Glyph, Glyphs}
use Rattle.shapers_buffer.specs.Glyph.{default_position}
use Rattle.shapers_position.specs.Metrics.{Metrics}

-- The glyph by its number, as fonts take it: every number above 65535 is queried as that one.
abbrev pub glyph_of : Glyph → GlyphId
glyph_of g = record { 0 = min g.glyph_id 65535 }

-- the positions, each as its glyph has it changed
abbrev pub positions_changed : (Glyph → GlyphPosition → GlyphPosition) →
    Glyphs → List GlyphPosition → List GlyphPosition
positions_changed f gs ps = map (λ c. f c.0 c.1) (zip gs ps)

-- a glyph that doesn't move the pen
abbrev pub without_advance : GlyphPosition → GlyphPosition
without_advance p = record p { x_advance = pos 0; y_advance = pos 0 }

-- the number of 32 bits that is nearest
abbrev pub nearest_of_32_bits : ℤ → ℤ
nearest_of_32_bits z = saturate_to_bits 31 z

-- the position of a glyph in horizontal text
abbrev pub level_position : Font → GlyphId → GlyphPosition
level_position font glyph = record default_position { x_advance = font.advance glyph }

-- and in vertical text, where its vertical origin is drawn at the pen
abbrev pub upright_position : Metrics → GlyphId → GlyphPosition
upright_position metrics glyph =
    let origin = metrics.v_origin glyph in
    record default_position {
      y_advance = metrics.v_advance glyph;
      x_offset = nearest_of_32_bits (pos 0 -ℤ origin.0);
      y_offset = nearest_of_32_bits (pos 0 -ℤ origin.1);
    }

-- that of a glyph that no lookup has moved
abbrev pub advanced : Font → Metrics → Bool → Glyph → GlyphPosition
advanced font metrics horizontal g =
    if horizontal then level_position font (glyph_of g)
    else upright_position metrics (glyph_of g)

-- a glyph drawn where the pen will be behind it, and its advance less
abbrev pub hung_back : GlyphPosition → GlyphPosition
hung_back p = record p {
  x_offset = nearest_of_32_bits (p.x_offset -ℤ p.x_advance);
  y_offset = nearest_of_32_bits (p.y_offset -ℤ p.y_advance);
}

-- the position of a glyph, which doesn't move the pen if it is a mark
abbrev pub mark_zeroed : (Glyph → Bool) → Bool → Glyph → GlyphPosition →
    GlyphPosition
mark_zeroed is_mark adjusts g p =
    if is_mark g then without_advance (if adjusts then hung_back p else p) else p

abbrev pub marks_zeroed : (Glyph → Bool) → Bool →
    Glyphs → List GlyphPosition → List GlyphPosition
marks_zeroed is_mark adjusts gs ps = positions_changed (mark_zeroed is_mark adjusts) gs ps
