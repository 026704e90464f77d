-- The masks that the plan gives a text, besides those of its shaper.
use Rattle.std.specs.Prelude.{ℕ, nat_le, nat_lt, bit_and, bit_or, ◌&&◌, fold, List, if◌then◌else◌}
use Rattle.std.specs.Int.{bit_not, w32}
use Rattle.shapers_buffer.specs.Properties.{no_marks}
use Rattle.shapers_buffer.specs.Glyphs.{Glyph}
use Rattle.shapers_plan.specs.declared.ot_shape_plan.user.UserRange.{UserRange}

-- a glyph with the features that hold for the whole text, and no others and no glyph flags
abbrev pub with_mask_alone : ℕ → Glyph → Glyph
with_mask_alone mask g = record g { mask = mask }

-- a glyph with the value of a feature, in the feature's bits, if its cluster is in the range
abbrev pub with_feature : Glyph → UserRange → Glyph
with_feature g f =
    if nat_le f.start g.cluster && nat_lt g.cluster f.end
    then (let r : Glyph = record g {
      mask = bit_or (bit_and g.mask (bit_not w32 f.mask)) (bit_and f.value f.mask);
    } in r)
    else g

-- a glyph with the values of all features, the later ones over the earlier
abbrev pub with_features : List UserRange → Glyph → Glyph
with_features features g = fold with_feature g features

-- the glyph of a character, which normalization kept beside it
abbrev pub as_glyph : Glyph → Glyph
as_glyph g = record g { glyph_id = g.glyph_props.0; glyph_props = no_marks }
