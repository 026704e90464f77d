-- The features of fractions. Masks: 0x10 of fractions, 0x20 of numerators, 0x40 of denominators; flags: 1 and 2.
use Rattle.std.specs.Prelude.{◌≡◌, ◌==◌, ◌||◌, ℕ, List, [], ◌∷◌, map, suc, refl, if◌then◌else◌}
use Rattle.shapers_buffer.specs.declared.buffer.category.hb_unicode_general_category_t.TheVariants.{Lo, Nd}
use Rattle.shapers_buffer.specs.Glyphs.{Glyphs}
use Rattle.shapers_buffer.specs.declared.buffer.level.Direction.{Direction}
use Rattle.shapers_buffer.specs.declared.buffer.level.Direction.TheVariants.{Invalid, LeftToRight, RightToLeft, TopToBottom, BottomToTop}
use Rattle.shapers_buffer.specs.Buffer.{Buffer, new_buffer}
use Rattle.shapers_buffer.specs.Glyph.{default_glyph}
use Rattle.shapers_plan.specs.declared.ot_shape_plan.DriverMasks.{DriverMasks}
use Rattle.shapers_pipeline.specs.Fractions.{fractions_set}
use Rattle.shapers_buffer.specs.Properties.{properties, general_category}
use Rattle.shapers_normal.specs.Sorting.{class_of_mark}

abbrev fraction_features : ℕ → ℕ → ℕ → DriverMasks
fraction_features frac numr dnom = record { frac = frac; numr = numr; dnom = dnom; rtlm = 0x80; vert = 0 }

-- characters, whose clusters rise; 1, 2 and 3 are decimal numbers
abbrev text_from : ℕ → List ℕ → Glyphs
text_from k [] = []
text_from k (c ∷ cs) = (record default_glyph {
  glyph_id = c;
  cluster = k;
  unicode_props = properties (if c == 0x31 || c == 0x32 || c == 0x33 then Nd else Lo) 0;
}) ∷ text_from (suc k) cs

abbrev buffer : Direction → ℕ → List ℕ → Buffer
buffer direction flags cs = record (new_buffer 9) {
  glyphs = text_from 0 cs;
  direction = direction;
  flags = record { 0 = flags };
}

abbrev masks : DriverMasks → Buffer → List ℕ
masks m b = map (λ g. g.mask) (fractions_set m b)

abbrev whole : DriverMasks
whole = fraction_features 0x10 0x20 0x40

abbrev one_23rd : List ℕ
one_23rd = 0x61 ∷ 0x31 ∷ 0x2044 ∷ 0x32 ∷ 0x33 ∷ 0x62 ∷ []

-- a1⁄23b by direction: the numerator stands first where the text goes forward
forward : map (λ d. masks whole (buffer d 0 one_23rd)) (LeftToRight ∷ TopToBottom ∷ [])
    ≡ (0 ∷ 0x30 ∷ 0x13 ∷ 0x53 ∷ 0x53 ∷ 0 ∷ []) ∷ (0 ∷ 0x30 ∷ 0x13 ∷ 0x53 ∷ 0x53 ∷ 0 ∷ []) ∷ []
unfolding general_category class_of_mark
forward = refl

backward : map (λ d. masks whole (buffer d 0 one_23rd)) (RightToLeft ∷ BottomToTop ∷ Invalid ∷ [])
    ≡ (0 ∷ 0x50 ∷ 0x13 ∷ 0x33 ∷ 0x33 ∷ 0 ∷ []) ∷ (0 ∷ 0x50 ∷ 0x13 ∷ 0x33 ∷ 0x33 ∷ 0 ∷ [])
    ∷ (0 ∷ 0x50 ∷ 0x13 ∷ 0x33 ∷ 0x33 ∷ 0 ∷ []) ∷ []
unfolding general_category class_of_mark
backward = refl

-- 1⁄2⁄3: the 2 is of both
in_a_row : masks whole (buffer LeftToRight 0 (0x31 ∷ 0x2044 ∷ 0x32 ∷ 0x2044 ∷ 0x33 ∷ []))
    ≡ 0x30 ∷ 0x13 ∷ 0x73 ∷ 0x13 ∷ 0x53 ∷ []
unfolding general_category class_of_mark
in_a_row = refl

-- numbers on one side alone: the slash, where flags of concatenation are wanted
lacking_left : map (λ flags. masks whole (buffer LeftToRight flags (0x61 ∷ 0x2044 ∷ 0x31 ∷ []))) (0 ∷ 0x40 ∷ [])
    ≡ (0 ∷ 0 ∷ 0 ∷ []) ∷ (0 ∷ 2 ∷ 0 ∷ []) ∷ []
unfolding general_category class_of_mark
lacking_left = refl

lacking_right : map (λ flags. masks whole (buffer LeftToRight flags (0x31 ∷ 0x2044 ∷ []))) (0 ∷ 0x40 ∷ [])
    ≡ (0 ∷ 0 ∷ []) ∷ (0 ∷ 2 ∷ []) ∷ []
unfolding general_category class_of_mark
lacking_right = refl

slash_only : masks whole (buffer LeftToRight 0x40 (0x2044 ∷ [])) ≡ 2 ∷ []
slash_only = refl

-- fonts: halves alone are enough together, and neither by itself; no feature, no flag
halves : masks (fraction_features 0 0x20 0x40) (buffer LeftToRight 0 (0x31 ∷ 0x2044 ∷ 0x32 ∷ []))
    ≡ 0x20 ∷ 0x03 ∷ 0x43 ∷ []
unfolding general_category class_of_mark
halves = refl

one_half : map (λ m. masks m (buffer LeftToRight 0x40 (0x31 ∷ 0x2044 ∷ 0x32 ∷ [])))
    (fraction_features 0 0x20 0 ∷ fraction_features 0 0 0x40 ∷ fraction_features 0 0 0 ∷ [])
    ≡ (0 ∷ 0 ∷ 0 ∷ []) ∷ (0 ∷ 0 ∷ 0 ∷ []) ∷ (0 ∷ 0 ∷ 0 ∷ []) ∷ []
one_half = refl
