-- SARA AM of Thai and Lao, computed: which characters are one, which are above-base marks, and what
-- becomes of each field.
use Rattle.std.specs.Prelude.{◌≡◌, ℕ, true, false, List, [], ◌∷◌, map, codes, None, Some, refl}
use Rattle.std.specs.List.{range_with_len}
use Rattle.shapers_buffer.specs.declared.buffer.category.hb_unicode_general_category_t.TheVariants.{Mn}
use Rattle.shapers_buffer.specs.Glyphs.{Glyph}
use Rattle.shapers_buffer.specs.declared.buffer.level.BufferClusterLevel.TheVariants.{MonotoneGraphemes, MonotoneCharacters, Characters}
use Rattle.shapers_buffer.specs.Properties.{general_category, modified_combining_class}
use Rattle.shapers_text.specs.Thai.{is_above_base, is_sara_am, is_thai, joins_before, nikhahit, sara_aa, sara_am_stretches, sara_am_sources, wants_forms}

-- 0E33 and 0EB3 alone
sara_am : map is_sara_am (0x0E30 ∷ 0x0E31 ∷ 0x0E32 ∷ 0x0E33 ∷ 0x0E34 ∷ 0x0E35 ∷ 0x0E36 ∷ 0x0EB0 ∷ 0x0EB1 ∷ 0x0EB2
    ∷ 0x0EB3 ∷ 0x0EB4 ∷ 0x0EB5 ∷ 0x0EB6 ∷ 0x0033 ∷ 0x00B3 ∷ 0x0D33 ∷ 0x0F33 ∷ 0x10E33 ∷ 0x10EB3 ∷ 0x0E73 ∷ 0x0EF3 ∷ [])
    ≡ false ∷ false ∷ false ∷ true ∷ false ∷ false ∷ false ∷ false ∷ false ∷ false ∷ true ∷ false ∷ false ∷ false
    ∷ false ∷ false ∷ false ∷ false ∷ false ∷ false ∷ false ∷ false ∷ []
sara_am = refl

-- Thai from 0E2E to 0E51: 0E31, 0E34 to 0E37, 0E3B, 0E47 to 0E4E
above_base_thai : map is_above_base (range_with_len 0x0E2E 36) ≡ false ∷ false ∷ false ∷ true ∷ false ∷ false ∷ true
    ∷ true ∷ true ∷ true ∷ false ∷ false ∷ false ∷ true ∷ false ∷ false ∷ false ∷ false ∷ false ∷ false ∷ false ∷ false
    ∷ false ∷ false ∷ false ∷ true ∷ true ∷ true ∷ true ∷ true ∷ true ∷ true ∷ true ∷ false ∷ false ∷ false ∷ []
above_base_thai = refl

-- Lao from 0EAE to 0ED1: the same with bit 0x80
above_base_lao : map is_above_base (range_with_len 0x0EAE 36) ≡ false ∷ false ∷ false ∷ true ∷ false ∷ false ∷ true
    ∷ true ∷ true ∷ true ∷ false ∷ false ∷ false ∷ true ∷ false ∷ false ∷ false ∷ false ∷ false ∷ false ∷ false ∷ false
    ∷ false ∷ false ∷ false ∷ true ∷ true ∷ true ∷ true ∷ true ∷ true ∷ true ∷ true ∷ false ∷ false ∷ false ∷ []
above_base_lao = refl

-- and nowhere else: only that bit is cleared
above_base_elsewhere : map is_above_base (0x0000 ∷ 0x007F ∷ 0x0080 ∷ 0x0034 ∷ 0x00B4 ∷ 0x0D31 ∷ 0x0DB1 ∷ 0x0F31 ∷ 0x0FB4
    ∷ 0x10E31 ∷ 0x0E00 ∷ 0x0E7F ∷ 0x0E80 ∷ 0x0EFF ∷ []) ≡ false ∷ false ∷ false ∷ false ∷ false ∷ false ∷ false ∷ false
    ∷ false ∷ false ∷ false ∷ false ∷ false ∷ false ∷ []
above_base_elsewhere = refl

-- NIKHAHIT and SARA AA copy SARA AM: of Thai 0E4D and 0E32, of Lao 0ECD and 0EB2; NIKHAHIT is a
-- continuation of category Mn, without the high byte
abbrev full : Glyph
full = record {
  glyph_id = 0x0E33;
  cluster = 5;
  mask = 0x1F;
  syllable = 0x24;
  category = 1;
  auxiliary = 3;
  glyph_props = record { 0 = 0x70 };
  lig_props = record { 0 = 2 };
  unicode_props = record { 0 = 0x0967 };
}

thai_nikhahit : nikhahit full ≡ record full { glyph_id = 0x0E4D; unicode_props = record { 0 = 0x09EC } }
unfolding modified_combining_class general_category
thai_nikhahit = refl

thai_sara_aa : sara_aa full ≡ record full { glyph_id = 0x0E32 }
thai_sara_aa = refl

lao_nikhahit : nikhahit (record full { glyph_id = 0x0EB3 })
    ≡ record full { glyph_id = 0x0ECD; unicode_props = record { 0 = 0x09EC } }
unfolding modified_combining_class general_category
lao_nikhahit = refl

lao_sara_aa : sara_aa (record full { glyph_id = 0x0EB3 }) ≡ record full { glyph_id = 0x0EB2 }
lao_sara_aa = refl

-- of properties that are all ones, of none, of a letter's, and of Cf and Zs, whose byte is no class
abbrev with_props : ℕ → Glyph
with_props n = record full { unicode_props = record { 0 = n } }

nikhahit_properties : map (λ n. (nikhahit (with_props n)).unicode_props.0) (0xFFFF ∷ 0 ∷ 0x0007 ∷ 0xFF07 ∷ 0x00E7 ∷ 0xFF01
    ∷ 0xFF1D ∷ []) ≡ 0xFFEC ∷ 0x008C ∷ 0x008C ∷ 0xFF8C ∷ 0x00EC ∷ 0x008C ∷ 0x008C ∷ []
unfolding modified_combining_class general_category
nikhahit_properties = refl

nikhahit_category : map (λ n. general_category (nikhahit (with_props n)).unicode_props) (0xFFFF ∷ 0 ∷ []) ≡ Mn ∷ Mn ∷ []
unfolding modified_combining_class general_category
nikhahit_category = refl

nikhahit_of_ones : nikhahit (with_props 0xFFFF)
    ≡ record full { glyph_id = 0x0E4D; unicode_props = record { 0 = 0xFFEC } }
unfolding modified_combining_class general_category
nikhahit_of_ones = refl

sara_aa_of_ones : sara_aa (with_props 0xFFFF)
    ≡ record full { glyph_id = 0x0E32; unicode_props = record { 0 = 0xFFFF } }
sara_aa_of_ones = refl

-- which level joins a SARA AM without marks to the glyph before it
joining : map joins_before (MonotoneGraphemes ∷ MonotoneCharacters ∷ Characters ∷ []) ≡ true ∷ false ∷ false ∷ []
joining = refl

-- the merged stretches at each level: with marks before it, with none, and at the start of the text
abbrev some_text : List ℕ
some_text = 0x0E33 ∷ 0x0E14 ∷ 0x0E34 ∷ 0x0E48 ∷ 0x0E33 ∷ 0x0E14 ∷ 0x0E33 ∷ 0x0EC8 ∷ 0x0EB3 ∷ []

stretches : map (λ level. sara_am_stretches level some_text) (MonotoneGraphemes ∷ MonotoneCharacters ∷ Characters ∷ [])
    ≡ ((2, 5) ∷ (5, 7) ∷ (7, 9) ∷ []) ∷ ((2, 5) ∷ (7, 9) ∷ []) ∷ ((2, 5) ∷ (7, 9) ∷ []) ∷ []
stretches = refl

-- and the old place that each glyph of the result copies
copied : sara_am_sources some_text ≡ 0 ∷ 0 ∷ 1 ∷ 4 ∷ 2 ∷ 3 ∷ 4 ∷ 5 ∷ 6 ∷ 6 ∷ 8 ∷ 7 ∷ 8 ∷ []
copied = refl

-- the private use forms: the script is Thai, and GSUB hasn't found it
scripts : map is_thai (None ∷ Some (record { 0 = codes "Thai" }) ∷ Some (record { 0 = codes "Laoo" })
    ∷ Some (record { 0 = codes "thai" }) ∷ []) ≡ false ∷ true ∷ false ∷ false ∷ []
scripts = refl

wanted : map (wants_forms (Some (record { 0 = codes "Thai" }))) (false ∷ true ∷ []) ≡ true ∷ false ∷ []
wanted = refl

wanted_for_lao : map (wants_forms (Some (record { 0 = codes "Laoo" }))) (false ∷ true ∷ []) ≡ false ∷ false ∷ []
wanted_for_lao = refl
