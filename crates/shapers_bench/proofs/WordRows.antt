-- Rows for words in a buffer, written out.
use Rattle.std.proofs.Common.{◌≡◌, ◌==◌, ℕ, true, false, [], ◌∷◌, map, refl}
use Rattle.std.specs.Prelude.{None, if◌then◌else◌}
use Rattle.shapers_base.specs.Font.{CharacterTables, Font, has_nominal}
use Rattle.shapers_base.specs.declared.plan.hb_ot_shape_plan_t.{hb_ot_shape_plan_t}
use Rattle.shapers_buffer.specs.Buffer.{new_buffer}
use Rattle.shapers_buffer.specs.Glyph.{characters, clusters, default_glyph}
use Rattle.shapers_buffer.specs.Glyphs.{Glyph}
use Rattle.shapers_buffer.specs.declared.buffer.category.hb_unicode_general_category_t.{hb_unicode_general_category_t}
use Rattle.shapers_buffer.specs.declared.buffer.category.hb_unicode_general_category_t.TheVariants.{Lo, Mc}
use Rattle.rustybuzz_shapers.specs.hb_arabic_joining_type_t.TheVariants.{U}
use Rattle.shapers_prepare.specs.CharacterProperties.{CharacterProperties}
use Rattle.shapers_pipeline.specs.TextTables.{VariantForms}
use Rattle.shapers_bench.specs.BorderedWords.{is_whole_syllable, khmer_word, opens_grapheme}
use Rattle.shapers_bench.specs.EquivalentWords.{are_low, is_low}
use Rattle.shapers_bench.specs.NormalWords.{are_drawn_syllables, is_drawn_syllable}
use Rattle.shapers_bench.specs.PreparedWords.{prepared_with}
use Rattle.shapers_bench.specs.Words.{letters_from, word_in}

-- a word of three letters, and two letters from place 7 on
row_characters : characters (letters_from 0 (0x61 ∷ 0x62 ∷ 0x63 ∷ [])) ≡ 0x61 ∷ 0x62 ∷ 0x63 ∷ []
row_characters = refl

row_clusters : clusters (letters_from 0 (0x61 ∷ 0x62 ∷ 0x63 ∷ [])) ≡ 0 ∷ 1 ∷ 2 ∷ []
row_clusters = refl

row_masks : map (λ (g : Glyph). g.mask) (letters_from 0 (0x61 ∷ 0x62 ∷ [])) ≡ 0x80000000 ∷ 0x80000000 ∷ []
row_masks = refl

row_from : clusters (letters_from 7 (0x61 ∷ 0x62 ∷ [])) ≡ 7 ∷ 8 ∷ []
row_from = refl

row_empty : word_in 9 [] ≡ new_buffer 9
row_empty = refl

-- around the surrogates, and a variation selector
row_low : map is_low (0 ∷ 0xD7FF ∷ 0xD800 ∷ 0xE000 ∷ 0xFE00 ∷ []) ≡ true ∷ true ∷ false ∷ false ∷ false ∷ []
row_low = refl

row_are_low : map are_low ([] ∷ (0x61 ∷ 0x62 ∷ []) ∷ (0x61 ∷ 0xFE00 ∷ []) ∷ []) ≡ true ∷ true ∷ false ∷ []
row_are_low = refl

-- around Hangul's syllables; and one that the font has, or lacks
row_outside : (font : Font) → map (is_drawn_syllable font) (0xABFF ∷ 0xD7A4 ∷ []) ≡ false ∷ false ∷ []
row_outside font = refl

row_first : (font : Font) → is_drawn_syllable font 0xAC00 ≡ has_nominal font 0xAC00
row_first font = refl

row_last : (font : Font) → is_drawn_syllable font 0xD7A3 ≡ has_nominal font 0xD7A3
row_last font = refl

row_none : (font : Font) → are_drawn_syllables font [] ≡ true
row_none font = refl

-- KA with the vowel sign AA in one cluster, and KHA in the next
category_of : ℕ → hb_unicode_general_category_t
category_of c = if c == 0x17B6 then Mc else Lo

properties : CharacterProperties
properties = record {
  general = category_of;
  class = λ c. 0;
  ignorable = λ c. false;
  pictographic = λ c. false;
  mirroring = λ c. None;
  vertical = λ c. None;
}

tables : CharacterTables
tables = record {
  joining = λ c. U;
  general = category_of;
  indic = λ c. if c == 0x17B6 then (23, 0) else (1, 0);
  universal = λ c. 0;
  composed = λ a b. None;
  decomposed = λ c. None;
}

seen : Glyph → ℕ × (ℕ × ℕ)
seen g = (g.glyph_id, (g.category, g.cluster))

row_graphemes : map seen (khmer_word properties tables (0x1780 ∷ 0x17B6 ∷ 0x1781 ∷ []))
    ≡ (0x1780, (1, 0)) ∷ (0x17B6, (23, 0)) ∷ (0x1781, (1, 2)) ∷ []
unfolding category_of properties tables seen
row_graphemes = refl

-- a whole syllable, a broken one, and what is in none
row_kinds : map (λ kind. is_whole_syllable (record { len = 1; kind = kind })) (0 ∷ 1 ∷ 2 ∷ []) ≡ true ∷ false ∷ false ∷ []
row_kinds = refl

-- a letter that begins a grapheme, one that carries it on, and so of a vowel sign
glyph_of : ℕ → ℕ → Glyph
glyph_of k bits = record default_glyph { category = k; unicode_props = record { 0 = bits } }

row_opens : map (opens_grapheme (1 ∷ 15 ∷ [])) (glyph_of 1 0 ∷ glyph_of 15 0x80 ∷ glyph_of 23 0 ∷ glyph_of 23 0x80 ∷ [])
    ≡ true ∷ false ∷ true ∷ true ∷ []
unfolding glyph_of
row_opens = refl

-- no shaper, and no feature glyph by glyph
row_shaper : (plan : hb_ot_shape_plan_t) (font : Font) (variants : VariantForms)
    → (prepared_with plan font variants).shaper ≡ None
row_shaper plan font variants = refl

row_features : (plan : hb_ot_shape_plan_t) (font : Font) (variants : VariantForms) →
    let masks = (prepared_with plan font variants).masks in
    masks.frac ∷ masks.numr ∷ masks.dnom ∷ masks.rtlm ∷ masks.vert ∷ [] ≡ 0 ∷ 0 ∷ 0 ∷ 0 ∷ 0 ∷ []
row_features plan font variants = refl
