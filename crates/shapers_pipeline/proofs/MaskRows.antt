-- The masks that a plan gives a text.
use Rattle.std.specs.Prelude.{◌≡◌, ℕ, List, [], ◌∷◌, map, refl}
use Rattle.shapers_buffer.specs.Glyphs.{Glyph}
use Rattle.shapers_plan.specs.declared.ot_shape_plan.user.UserRange.{UserRange}
use Rattle.shapers_pipeline.specs.Masks.{as_glyph, with_features, with_mask_alone}

abbrev glyph : ℕ → ℕ → ℕ → ℕ → Glyph
glyph c mask props cluster = record {
  glyph_id = c;
  mask = mask;
  cluster = cluster;
  glyph_props = record { 0 = props };
  lig_props = record { 0 = 14 };
  syllable = 13;
  unicode_props = record { 0 = 0x17E7 };
  category = 17;
  auxiliary = 19;
}

-- a mask with flags goes whole; nothing else changes
mask_alone : with_mask_alone 0x80000010 (glyph 0x61 0x77 11 5) ≡ glyph 0x61 0x80000010 11 5
mask_alone = refl

-- a character's glyph, by its number
mapped : as_glyph (glyph 0x61 0x77 68 5) ≡ glyph 68 0x77 0 5
mapped = refl

abbrev feature : ℕ → ℕ → ℕ → ℕ → UserRange
feature mask value start end = record { mask = mask; value = value; start = start; end = end }

abbrev masks : List UserRange → List ℕ → List ℕ
masks features clusters = map (λ c. (with_features features (glyph 0x61 0x8F1 11 c)).mask) clusters

-- clusters 3 and 4 of 2 to 5: the feature's bits are set anew, the others stay
ranged : masks (feature 0xF0 0x30 3 5 ∷ []) (2 ∷ 3 ∷ 4 ∷ 5 ∷ []) ≡ 0x8F1 ∷ 0x831 ∷ 0x831 ∷ 0x8F1 ∷ []
ranged = refl

-- off, and a value with bits of others, which stay as they are
turned_off : masks (feature 0xF0 0 0 0xFFFFFFFF ∷ []) (0 ∷ 7 ∷ []) ≡ 0x801 ∷ 0x801 ∷ []
turned_off = refl

value_too_wide : masks (feature 0xF0 0xF10 0 9 ∷ []) (0 ∷ []) ≡ 0x811 ∷ []
value_too_wide = refl

-- the later of two over the earlier, an empty range, and no feature
later_wins : masks (feature 0xF0 0x30 0 9 ∷ feature 0xF0 0x10 4 9 ∷ []) (3 ∷ 4 ∷ []) ≡ 0x831 ∷ 0x811 ∷ []
later_wins = refl

empty_range : masks (feature 0xF0 0x30 4 4 ∷ []) (3 ∷ 4 ∷ 5 ∷ []) ≡ 0x8F1 ∷ 0x8F1 ∷ 0x8F1 ∷ []
empty_range = refl

no_feature : masks [] (3 ∷ []) ≡ 0x8F1 ∷ []
no_feature = refl
