-- A face as the hooks, normalization and positions read it.
use Rattle.std.specs.Prelude.{ℕ, ◌/◌, ◌||◌, ℤ, pos, neg_ℤ, ◌-ℤ◌, Option, None, Some}
use Rattle.std.specs.Int.{saturate_to_bits}
use Rattle.std.specs.Option.{option_map}
use Rattle.shapers_base.specs.Font.{Font}
use Rattle.shapers_base.specs.declared.font.GlyphId.{GlyphId}
use Rattle.shapers_pipeline.specs.TextTables.{VariantForms}
use Rattle.shapers_position.specs.Metrics.{Metrics}
use Rattle.opentype_face.specs.Faces.{Tables, ascender_of, descender_of, glyph_count_of, h_advance_of, nominal_glyph_of, v_origin_of, variation_glyph_of}
use Rattle.opentype_face.specs.Metrics.{advance_in, units_in}
use Rattle.opentype_font.specs.ScriptFeatures.{has_feature_in}
use Rattle.opentype_font.specs.TextTags.{Tags}
use Rattle.opentype_font.specs.WouldApply.{would_apply}

-- a glyph by its number
abbrev pub glyph_by : ℕ → GlyphId
glyph_by number = record { 0 = number }

-- for texts with these tags: the features are those of GSUB and of GPOS for them
abbrev pub font_of : Tables → Tags → Font
font_of t tags = record {
  nominal = λ c. option_map glyph_by (nominal_glyph_of t c);
  advance = λ glyph. pos (h_advance_of t glyph.0);
  applies = λ lookup glyphs zero_context. would_apply t.gsub lookup glyphs zero_context;
  offers = λ tag. has_feature_in t.gsub tags tag || has_feature_in t.gpos tags tag;
}

abbrev pub variants_of : Tables → VariantForms
variants_of t c selector = option_map glyph_by (variation_glyph_of t c selector)

-- the advance in vertical text is below 0; where the font has none a line is as high as its
-- ascender is above its descender
abbrev pub vertical_advance_by : Tables → Option ℕ → ℤ
vertical_advance_by t None = saturate_to_bits 31 (descender_of t -ℤ ascender_of t)
vertical_advance_by t (Some advance) = neg_ℤ (pos advance)

abbrev pub vertical_advance_of : Tables → ℕ → ℤ
vertical_advance_of t glyph = vertical_advance_by t (advance_in t.vhea t.vmtx (glyph_count_of t)
    glyph)

-- the vertical origin lies half of the horizontal advance to the right
abbrev pub metrics_of : Tables → Metrics
metrics_of t = record {
  em = units_in t.head;
  v_advance = λ glyph. vertical_advance_of t glyph.0;
  v_origin = λ glyph. (pos (h_advance_of t glyph.0 / 2), v_origin_of t glyph.0);
}
