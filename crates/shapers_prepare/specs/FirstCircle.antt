-- A dotted circle in front of a text that begins with a mark.
use Rattle.std.specs.Prelude.{ℕ, ◌==◌, Bool, false, not, ◌&&◌, [], ◌∷◌, length, if◌then◌else◌}
use Rattle.shapers_base.specs.Font.{Font, dotted_circle, has_nominal}
use Rattle.shapers_buffer.specs.Glyphs.{Glyph, Glyphs}
use Rattle.shapers_buffer.specs.Buffer.{Buffer, asks, no_dotted_circle}
use Rattle.shapers_buffer.specs.Category.{is_mark}
use Rattle.shapers_buffer.specs.Glyph.{default_glyph}
use Rattle.shapers_buffer.specs.Properties.{general_category}
use Rattle.shapers_prepare.specs.CharacterProperties.{CharacterProperties}
use Rattle.shapers_prepare.specs.GlyphProperties.{with_properties_behind}

-- the flag of a buffer whose text is the beginning of one, as a paragraph's
abbrev pub begins_text : ℕ
begins_text = 0x02

abbrev pub begins_with_mark : Glyphs → Bool
begins_with_mark [] = false
begins_with_mark (g ∷ gs) = is_mark (general_category g.unicode_props)

-- whether a text wants a circle in front: it is the beginning of one, with nothing before it, it
-- begins with a mark, and the caller allows circles
abbrev pub wants_first_circle : Buffer → Bool
wants_first_circle b =
    asks begins_text b && not (asks no_dotted_circle b) && length b.before == 0
    && begins_with_mark b.glyphs

-- the circle before a glyph, in its cluster and with its features
abbrev pub first_circle : CharacterProperties → Glyph → Glyph
first_circle p g =
    let circle : Glyph =
    record default_glyph { glyph_id = dotted_circle; cluster = g.cluster; mask = g.mask } in
    with_properties_behind p [] circle

abbrev pub behind_circle : CharacterProperties → Glyphs → Glyphs
behind_circle p [] = []
behind_circle p (g ∷ gs) = first_circle p g ∷ (g ∷ gs)

-- the text with the circle that it wants, if the font has one
abbrev pub with_first_circle : CharacterProperties → Font → Buffer → Glyphs
with_first_circle p font b =
    if wants_first_circle b && has_nominal font dotted_circle then behind_circle p b.glyphs
    else b.glyphs
