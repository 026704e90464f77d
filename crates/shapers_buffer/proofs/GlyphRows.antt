-- What a glyph's own readers and setters say of one whose fields are all set, written out: a setter
-- changes its part of one word, and every other field stays.
use Rattle.std.specs.Prelude.{◌≡◌, ℕ, true, false, [], ◌∷◌, refl}
use Rattle.shapers_buffer.specs.declared.buffer.category.hb_unicode_general_category_t.TheVariants.{Mn, Zs}
use Rattle.shapers_buffer.specs.Glyphs.{Glyph}
use Rattle.shapers_buffer.specs.Properties.{SUBSTITUTED, LIGATED, MULTIPLIED, IGNORABLE, CONTINUATION, component, general_category, is_continuation, is_ignorable, is_ligated, is_multiplied, is_substituted, modified_combining_class, set_mark, set_property, with_component, with_general_category, with_modified_combining_class}

-- a glyph by the numbers of its three words: what lookups did to it, its ligature, its character
abbrev glyph_of : ℕ → ℕ → ℕ → Glyph
glyph_of done ligature character = record {
  glyph_id = 1;
  mask = 2;
  cluster = 3;
  glyph_props = record { 0 = done };
  lig_props = record { 0 = ligature };
  syllable = 4;
  unicode_props = record { 0 = character };
  category = 5;
  auxiliary = 6;
}

-- an ignorable mark of class 220 that carries on, part 13 of several, put in for several
abbrev whole : Glyph
whole = glyph_of 0xFFBF 0xED 0xDCEC

category_read : general_category whole.unicode_props ≡ Mn
unfolding general_category
category_read = refl

class_read : modified_combining_class whole.unicode_props ≡ 220
unfolding modified_combining_class general_category
class_read = refl

component_read : component whole.lig_props ≡ 13
component_read = refl

marks_read : is_substituted whole.glyph_props ∷ is_ligated whole.glyph_props ∷ is_multiplied whole.glyph_props
    ∷ is_ignorable whole.unicode_props ∷ is_continuation whole.unicode_props ∷ []
    ≡ true ∷ true ∷ false ∷ true ∷ true ∷ []
marks_read = refl

category_set : record whole { unicode_props = with_general_category Zs whole.unicode_props } ≡ glyph_of 0xFFBF 0xED 0xFD
category_set = refl

class_set : record whole { unicode_props = with_modified_combining_class 25 whole.unicode_props }
    ≡ glyph_of 0xFFBF 0xED 0x19EC
unfolding general_category
class_set = refl

component_set : record whole { lig_props = with_component 18 whole.lig_props } ≡ glyph_of 0xFFBF 0xE2 0xDCEC
component_set = refl

marks_set : (record whole { glyph_props = set_mark SUBSTITUTED false whole.glyph_props })
    ∷ (record whole { glyph_props = set_mark LIGATED false whole.glyph_props })
    ∷ (record whole { glyph_props = set_mark MULTIPLIED true whole.glyph_props })
    ∷ (record whole { unicode_props = set_property IGNORABLE false whole.unicode_props })
    ∷ (record whole { unicode_props = set_property CONTINUATION false whole.unicode_props }) ∷ []
    ≡ glyph_of 0xFFAF 0xED 0xDCEC ∷ glyph_of 0xFF9F 0xED 0xDCEC ∷ glyph_of 0xFFFF 0xED 0xDCEC
    ∷ glyph_of 0xFFBF 0xED 0xDCCC ∷ glyph_of 0xFFBF 0xED 0xDC6C ∷ []
marks_set = refl
