-- Characters for another direction.
use Rattle.std.specs.Prelude.{◌≡◌, ◌==◌, ◌||◌, ℕ, Bool, true, false, [], ◌∷◌, None, Some, map, pos, refl, if◌then◌else◌}
use Rattle.shapers_base.specs.declared.font.GlyphId.{GlyphId}
use Rattle.shapers_base.specs.Font.{Font}
use Rattle.shapers_buffer.specs.declared.buffer.category.hb_unicode_general_category_t.TheVariants.{Lo}
use Rattle.shapers_buffer.specs.Glyphs.{Glyph}
use Rattle.shapers_buffer.specs.declared.buffer.level.Direction.{Direction}
use Rattle.shapers_buffer.specs.declared.buffer.level.Direction.TheVariants.{Invalid, LeftToRight, RightToLeft, TopToBottom, BottomToTop}
use Rattle.shapers_prepare.specs.declared.ot_shape_prepare.rotation.CharRotation.{CharRotation}
use Rattle.shapers_prepare.specs.CharacterProperties.{CharacterProperties}
use Rattle.shapers_prepare.specs.Rotation.{rotated_glyph}

-- brackets and a corner bracket of Unicode's
abbrev sample : CharacterProperties
sample = record {
  general = λ c. Lo;
  class = λ c. 0;
  ignorable = λ c. false;
  pictographic = λ c. false;
  mirroring = λ c. if c == 0x28 then Some 0x29 else if c == 0x300C then Some 0x300D else None;
  vertical = λ c. if c == 0x300C then Some 0xFE41 else if c == 0x300D then Some 0xFE42 else if c == 0x2026 then Some
      0xFE19 else None;
}

-- a font with these two
abbrev font_with : ℕ → ℕ → Font
font_with a b = record {
  nominal = λ c. if c == a || c == b then (let glyph : GlyphId = record { 0 = 4 } in Some glyph) else None;
  advance = λ g. pos 0;
  applies = λ l gs z. false;
  offers = λ t. false;
}

abbrev to : Direction → Bool → CharRotation
to direction has_vert = record { direction = direction; rtlm_mask = 0x80; has_vert = has_vert }

abbrev glyph : ℕ → Glyph
glyph c = record {
  glyph_id = c;
  mask = 0x103;
  cluster = 5;
  glyph_props = record { 0 = 0x70 };
  lig_props = record { 0 = 0x2E };
  syllable = 13;
  unicode_props = record { 0 = 0x17F9 };
  category = 17;
  auxiliary = 19;
}

-- the mirrored bracket, which the font has: nothing else changes
mirrored_bracket : rotated_glyph sample (font_with 0x29 0x30) (to RightToLeft false) (glyph 0x28) ≡ glyph 0x29
mirrored_bracket = refl

abbrev seen : Font → CharRotation → ℕ → ℕ × ℕ
seen font r c = let g = rotated_glyph sample font r (glyph c) in (g.glyph_id, g.mask)

-- the font lacks the mirrored bracket; a letter without one
lacking : map {B = ℕ × ℕ} (seen (font_with 0x28 0x30) (to RightToLeft false)) (0x28 ∷ 0x5D0 ∷ []) ≡ (0x28, 0x183)
    ∷ (0x5D0, 0x183) ∷ []
lacking = refl

-- a bracket in each direction, and a form for vertical text with and without the font's feature
by_direction : map {B = ℕ × ℕ} (λ d. seen (font_with 0x29 0x30) (to d false) 0x28) (Invalid ∷ LeftToRight ∷ RightToLeft
    ∷ TopToBottom ∷ BottomToTop ∷ []) ≡ (0x28, 0x103) ∷ (0x28, 0x103) ∷ (0x29, 0x103) ∷ (0x28, 0x103) ∷ (0x29, 0x103)
    ∷ []
by_direction = refl

upright : map {B = ℕ × ℕ} (λ d. seen (font_with 0xFE19 0x30) (to d false) 0x2026) (Invalid ∷ LeftToRight ∷ RightToLeft
    ∷ TopToBottom ∷ BottomToTop ∷ []) ≡ (0x2026, 0x103) ∷ (0x2026, 0x103) ∷ (0x2026, 0x183) ∷ (0xFE19, 0x103)
    ∷ (0xFE19, 0x183) ∷ []
upright = refl

by_feature : seen (font_with 0xFE19 0x30) (to TopToBottom true) 0x2026 ≡ (0x2026, 0x103)
by_feature = refl

upright_lacking : seen (font_with 0x2026 0x30) (to TopToBottom false) 0x2026 ≡ (0x2026, 0x103)
upright_lacking = refl

-- from bottom to top both: the mirrored corner bracket, and then its form
both : seen (font_with 0x300D 0xFE42) (to BottomToTop false) 0x300C ≡ (0xFE42, 0x103)
both = refl
