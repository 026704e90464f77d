-- The properties of characters.
use Rattle.std.specs.Prelude.{◌≡◌, ℕ, [], ◌∷◌, List, map, refl}
use Rattle.shapers_base.specs.declared.plan.record.NormalizationMode.TheVariants.{AUTO}
use Rattle.shapers_buffer.specs.Glyphs.{Glyph}
use Rattle.shapers_normal.specs.Properties.{as_character, character_properties, class_byte}
use Rattle.shapers_normal.proofs.RowContext.{with_font}

-- a glyph with all fields set keeps the fields that aren't its character's
abbrev busy : Glyph
busy = record {
  glyph_id = 3;
  mask = 7;
  cluster = 5;
  glyph_props = record { 0 = 0x70 };
  lig_props = record { 0 = 0x2E };
  syllable = 13;
  unicode_props = record { 0 = 0x17F9 };
  category = 17;
  auxiliary = 19;
}

as_mark : as_character (with_font AUTO []) 0x301 99 busy ≡ record {
  glyph_id = 0x301;
  mask = 7;
  cluster = 5;
  glyph_props = record { 0 = 99 };
  lig_props = record { 0 = 0x2E };
  syllable = 13;
  unicode_props = record { 0 = 0xE68C };
  category = 17;
  auxiliary = 19;
}
as_mark = refl

-- a letter, a mark, a soft hyphen, both joiners, the grapheme joiner, a Mongolian selector; and an
-- ignorable character of ASCII's, which there is none of
abbrev samples : List ℕ
samples = 0x65 ∷ 0x301 ∷ 0xAD ∷ 0x200C ∷ 0x200D ∷ 0x34F ∷ 0x180B ∷ 0x41 ∷ []

properties_of : map (λ c. (character_properties (with_font AUTO []) c).0) samples ≡ 0x0005 ∷ 0xE68C ∷ 0x0025 ∷ 0x0221
    ∷ 0x0121 ∷ 0x00EC ∷ 0x0065 ∷ 0x0005 ∷ []
properties_of = refl

bytes_of : map (class_byte (with_font AUTO [])) samples ≡ 0 ∷ 230 ∷ 0 ∷ 2 ∷ 1 ∷ 0 ∷ 0 ∷ 0 ∷ []
bytes_of = refl
