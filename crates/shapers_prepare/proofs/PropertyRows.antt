-- The properties of characters.
use Rattle.std.specs.Prelude.{◌≡◌, ◌==◌, ◌||◌, ℕ, Bool, true, false, [], ◌∷◌, List, None, map, refl, if◌then◌else◌}
use Rattle.shapers_buffer.specs.declared.buffer.category.hb_unicode_general_category_t.{hb_unicode_general_category_t}
use Rattle.shapers_buffer.specs.declared.buffer.category.hb_unicode_general_category_t.TheVariants.{Cf, Lm, Lo, Mc, Me, Mn, Sk, So}
use Rattle.shapers_buffer.specs.Glyphs.{Glyph}
use Rattle.shapers_buffer.specs.Glyph.{default_glyph}
use Rattle.shapers_buffer.specs.Properties.{is_continuation}
use Rattle.shapers_normal.specs.Properties.{is_from_to}
use Rattle.shapers_prepare.specs.CharacterProperties.{CharacterProperties}
use Rattle.shapers_prepare.specs.PropertyWalk.{properties_with}
use Rattle.shapers_prepare.specs.GlyphProperties.{stored_class, stored_properties, properties_set, with_properties}

-- some characters of Unicode, and in ASCII a mark that is ignorable, which there is none of
abbrev category_of : ℕ → hb_unicode_general_category_t
category_of c =
    if c == 0x301 || c == 0x34F || c == 0x180B || c == 0x41 then Mn
    else if c == 0x903 then Mc else if c == 0x20DD then Me
    else if c == 0x200C || c == 0x200D || c == 0xAD || is_from_to 0xE0001 0xE007F c then Cf
    else if is_from_to 0xFF9E 0xFF9F c then Lm
    else if is_from_to 0x1F3FB 0x1F3FF c then Sk
    else if is_from_to 0x1F000 0x1FFFF c then So else Lo

abbrev sample : CharacterProperties
sample = record {
  general = category_of;
  class = λ c. if c == 0x301 then 230 else if c == 0x41 then 7 else 0;
  ignorable = λ c. c == 0x34F || c == 0x200C || c == 0x200D || c == 0x180B || c == 0xAD || c == 0x41
      || is_from_to 0xE0000 0xE0FFF c;
  pictographic = λ c. c == 0xA9 || c == 0x1F1E5 || is_from_to 0x1F400 0x1F4FF c;
  mirroring = λ c. None;
  vertical = λ c. None;
}

-- a category and a class, with each bit by itself
by_bits : map (λ p. p.0) (properties_with Mn 230 false false false ∷ properties_with Cf 1 true false false
    ∷ properties_with So 0 false true false ∷ properties_with Mn 0 true true true ∷ [])
    ≡ 58892 ∷ 289 ∷ 154 ∷ 236 ∷ []
by_bits = refl

-- a glyph with all fields set keeps the fields that aren't its character's, and what lookups noted
abbrev busy : Glyph
busy = record {
  glyph_id = 0x301;
  mask = 7;
  cluster = 5;
  glyph_props = record { 0 = 0x70 };
  lig_props = record { 0 = 0x2E };
  syllable = 13;
  unicode_props = record { 0 = 0x17F9 };
  category = 17;
  auxiliary = 19;
}

as_mark : with_properties sample true busy ≡ record {
  glyph_id = 0x301;
  mask = 7;
  cluster = 5;
  glyph_props = record { 0 = 0x70 };
  lig_props = record { 0 = 0x2E };
  syllable = 13;
  unicode_props = record { 0 = 0xE68C };
  category = 17;
  auxiliary = 19;
}
as_mark = refl

-- a letter, a mark, a soft hyphen, both joiners, the grapheme joiner, a Mongolian selector, a tag and
-- what stands before tags, and the ignorable mark of ASCII
abbrev samples : List ℕ
samples = 0x905 ∷ 0x301 ∷ 0xAD ∷ 0x200C ∷ 0x200D ∷ 0x34F ∷ 0x180B ∷ 0xE0020 ∷ 0xE001F ∷ 0x41 ∷ []

properties_of : map (λ c. (stored_properties sample false c).0) samples ≡ 0x0007 ∷ 0xE60C ∷ 0x0021 ∷ 0x0221 ∷ 0x0121
    ∷ 0x006C ∷ 0x006C ∷ 0x0061 ∷ 0x0021 ∷ 0x000C ∷ []
properties_of = refl

bytes_of : map (stored_class sample) samples ≡ 0 ∷ 230 ∷ 0 ∷ 2 ∷ 1 ∷ 0 ∷ 0 ∷ 0 ∷ 0 ∷ 0 ∷ []
bytes_of = refl

-- which of these characters carry on a grapheme
abbrev going_on : List ℕ → List Bool
going_on cs =
    map (λ g. is_continuation g.unicode_props)
    (properties_set sample (map (λ c. let g : Glyph = record default_glyph { glyph_id = c } in g) cs))

-- the three kinds of marks, also in front; none of ASCII's is
marks_go_on : going_on (0x301 ∷ 0x905 ∷ 0x903 ∷ 0x20DD ∷ 0x41 ∷ []) ≡ true ∷ false ∷ true ∷ true ∷ false ∷ []
marks_go_on = refl

-- what always does, to both ends; tag space is the first tag, and the non-joiner doesn't
others_go_on : going_on (0x1F3FA ∷ 0x1F3FB ∷ 0x1F3FF ∷ 0xFF9D ∷ 0xFF9E ∷ 0xFF9F ∷ 0xFFA0 ∷ 0xE001F ∷ 0xE0020 ∷ 0xE007F
    ∷ 0xE0080 ∷ 0x200C ∷ 0x200D ∷ []) ≡ false ∷ true ∷ true ∷ false ∷ true ∷ true ∷ false ∷ false ∷ true ∷ true ∷ false
    ∷ false ∷ true ∷ []
others_go_on = refl

-- regional indicators by pairs: five; two pairs apart; what stands right before the first indicator
-- and behind the last one isn't one; a mark after the first begins pairs anew
flags_go_on : going_on (0x1F1E6 ∷ 0x1F1FF ∷ 0x1F1E9 ∷ 0x1F1EA ∷ 0x1F1EB ∷ []) ≡ false ∷ true ∷ false ∷ true ∷ false ∷ []
flags_go_on = refl

flags_apart : going_on (0x1F1E6 ∷ 0x905 ∷ 0x1F1E7 ∷ 0x1F1E8 ∷ 0x1F1E5 ∷ 0x1F200 ∷ []) ≡ false ∷ false ∷ false ∷ true
    ∷ false ∷ false ∷ []
flags_apart = refl

flags_broken : going_on (0x1F1E6 ∷ 0x301 ∷ 0x1F1E7 ∷ 0x1F1E8 ∷ []) ≡ false ∷ true ∷ false ∷ true ∷ []
flags_broken = refl

-- a pictograph goes on right behind ZWJ alone, and a letter doesn't
joined_go_on : going_on (0x1F468 ∷ 0x200D ∷ 0x1F469 ∷ 0x1F469 ∷ 0x200D ∷ 0x905 ∷ 0x200D ∷ 0x301 ∷ 0x1F469 ∷ 0x200D
    ∷ 0xA9 ∷ []) ≡ false ∷ true ∷ true ∷ false ∷ true ∷ false ∷ true ∷ true ∷ false ∷ true ∷ true ∷ []
joined_go_on = refl

-- in front of a text, and an indicator behind ZWJ
joined_in_front : going_on (0x200D ∷ 0x1F469 ∷ 0x200D ∷ 0x1F1E6 ∷ 0x1F1E7 ∷ []) ≡ true ∷ true ∷ true ∷ false ∷ true ∷ []
joined_in_front = refl
