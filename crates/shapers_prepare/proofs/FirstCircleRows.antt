-- The circle in front on small texts.
use Rattle.std.specs.Prelude.{◌≡◌, ◌==◌, ℕ, [], ◌∷◌, List, None, Some, length, map, refl, if◌then◌else◌}
use Rattle.shapers_base.specs.declared.font.GlyphId.{GlyphId}
use Rattle.shapers_base.specs.Font.{Font}
use Rattle.std.specs.Prelude.{pos, false}
use Rattle.shapers_buffer.specs.declared.buffer.category.hb_unicode_general_category_t.{hb_unicode_general_category_t}
use Rattle.shapers_buffer.specs.declared.buffer.category.hb_unicode_general_category_t.TheVariants.{Lo, Mc, Me, Mn, So}
use Rattle.shapers_buffer.specs.Glyphs.{Glyph, Glyphs}
use Rattle.shapers_buffer.specs.Buffer.{Buffer, new_buffer}
use Rattle.shapers_buffer.specs.Properties.{CONTINUATION, HIDDEN, IGNORABLE, general_category, properties, with_property}
use Rattle.shapers_prepare.specs.CharacterProperties.{CharacterProperties}
use Rattle.shapers_prepare.specs.FirstCircle.{with_first_circle}

abbrev sample : CharacterProperties
sample = record {
  general = λ c. if c == 0x25CC then So else Mn;
  class = λ c. 9;
  ignorable = λ c. false;
  pictographic = λ c. false;
  mirroring = λ c. None;
  vertical = λ c. None;
}

-- a font that has the circle, or not
abbrev font_with : ℕ → Font
font_with character = record {
  nominal = λ c. if c == character then (let glyph : GlyphId = record { 0 = 4 } in Some glyph) else None;
  advance = λ g. pos 0;
  applies = λ l gs z. false;
  offers = λ t. false;
}

-- a glyph of a category, with other fields set
abbrev glyph : hb_unicode_general_category_t → Glyph
glyph general = record {
  glyph_id = 0x301;
  mask = 0x80000007;
  cluster = 5;
  glyph_props = record { 0 = 0x70 };
  lig_props = record { 0 = 0x2E };
  syllable = 13;
  unicode_props =
      with_property CONTINUATION (with_property HIDDEN (with_property IGNORABLE (properties general 23)));
  category = 17;
  auxiliary = 19;
}

abbrev buffer : ℕ → List ℕ → Glyphs → Buffer
buffer flags before gs = let b : Buffer =
    record (new_buffer 9) { glyphs = gs; flags = record { 0 = flags }; before = before } in b

-- the circle has the mark's cluster and mask and nothing else of it
circle_made : with_first_circle sample (font_with 0x25CC) (buffer 2 [] (glyph Mn ∷ glyph Lo ∷ [])) ≡ record {
  glyph_id = 0x25CC;
  mask = 0x80000007;
  cluster = 5;
  glyph_props = record { 0 = 0 };
  lig_props = record { 0 = 0 };
  syllable = 0;
  unicode_props = record { 0 = 0x001A };
  category = 0;
  auxiliary = 0;
} ∷ glyph Mn ∷ glyph Lo ∷ []
unfolding general_category
circle_made = refl

-- how many glyphs there are with the circle
abbrev counted : List ℕ
counted = map length
    (with_first_circle sample (font_with 0x25CC) (buffer 2 [] (glyph Mc ∷ []))
    ∷ with_first_circle sample (font_with 0x25CC) (buffer 0xC2 [] (glyph Me ∷ []))
    ∷ with_first_circle sample (font_with 0x25CC) (buffer 2 [] (glyph Lo ∷ glyph Mn ∷ []))
    ∷ with_first_circle sample (font_with 0x25CD) (buffer 2 [] (glyph Mn ∷ []))
    ∷ with_first_circle sample (font_with 0x25CC) (buffer 0x22 [] (glyph Mn ∷ []))
    ∷ with_first_circle sample (font_with 0x25CC) (buffer 0xC0 [] (glyph Mn ∷ []))
    ∷ with_first_circle sample (font_with 0x25CC) (buffer 2 (0x41 ∷ []) (glyph Mn ∷ []))
    ∷ with_first_circle sample (font_with 0x25CC) (buffer 2 [] [])
    ∷ [])

-- a spacing and an enclosing mark; a letter in front; a font without the circle; circles forbidden; not
-- the beginning of a text; a character before it; nothing
circles_wanted : counted ≡ 2 ∷ 2 ∷ 2 ∷ 1 ∷ 1 ∷ 1 ∷ 1 ∷ 0 ∷ []
unfolding general_category
circles_wanted = refl
