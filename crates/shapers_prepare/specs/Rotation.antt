-- Characters for another direction: mirrored ones, and forms for vertical text.
use Rattle.std.specs.Prelude.{ℕ, Bool, true, false, not, ◌&&◌, Option, None, Some, if◌then◌else◌}
use Rattle.std.specs.Option.{option_map_or}
use Rattle.shapers_base.specs.Font.{Font, has_nominal}
use Rattle.shapers_buffer.specs.Glyphs.{Glyph}
use Rattle.shapers_buffer.specs.declared.buffer.level.Direction.{Direction}
use Rattle.shapers_buffer.specs.declared.buffer.level.Direction.TheVariants.{RightToLeft, TopToBottom, BottomToTop}
use Rattle.shapers_buffer.specs.GlyphFlags.{with_bits}
use Rattle.shapers_prepare.specs.declared.ot_shape_prepare.rotation.CharRotation.{CharRotation}
use Rattle.shapers_prepare.specs.CharacterProperties.{CharacterProperties}

abbrev pub goes_backward : Direction → Bool
goes_backward RightToLeft = true
goes_backward BottomToTop = true
goes_backward _ = false

abbrev pub goes_vertically : Direction → Bool
goes_vertically TopToBottom = true
goes_vertically BottomToTop = true
goes_vertically _ = false

-- a character that the font has, if there is one
abbrev pub which_font_has : Font → Option ℕ → Option ℕ
which_font_has font None = None
which_font_has font (Some c) = if has_nominal font c then Some c else None

abbrev pub as_other_character : Glyph → ℕ → Glyph
as_other_character g c = record g { glyph_id = c }

-- in text that goes backward: the mirrored character where the font has it, else the feature that
-- mirrors
abbrev pub mirrored_glyph : CharacterProperties → Font → ℕ → Glyph → Glyph
mirrored_glyph p font mask g =
    option_map_or (as_other_character g) (which_font_has font (p.mirroring g.glyph_id))
    (with_bits mask g)

-- in vertical text: the vertical form where the font has it
abbrev pub upright_glyph : CharacterProperties → Font → Glyph → Glyph
upright_glyph p font g =
    option_map_or (as_other_character g) (which_font_has font (p.vertical g.glyph_id)) g

-- a glyph rotated; a font with a feature for vertical forms keeps its characters
abbrev pub rotated_glyph : CharacterProperties → Font → CharRotation → Glyph →
    Glyph
rotated_glyph p font r g =
    let mirrored_one =
    if goes_backward r.direction then mirrored_glyph p font r.rtlm_mask g else g in
    if goes_vertically r.direction && not r.has_vert then upright_glyph p font mirrored_one
    else mirrored_one
