-- A font and the Unicode tables, as their callers see them: functions, so that the same question
-- has the same result.
use Rattle.std.specs.Prelude.{ℕ, ℤ, Bool, List, Option, is_some}
use Rattle.shapers_buffer.specs.declared.buffer.category.hb_unicode_general_category_t.{hb_unicode_general_category_t}
use Rattle.shapers_buffer.specs.declared.buffer.tag.hb_tag_t.{hb_tag_t}
use Rattle.shapers_base.specs.declared.font.GlyphId.{GlyphId}
use Rattle.shapers_base.specs.declared.plan.joining.hb_arabic_joining_type_t.{hb_arabic_joining_type_t}

-- a font: a character's nominal glyph, a glyph's advance in font units, whether a lookup would
-- apply to glyphs (with or without context around them), and whether it has a feature
pub record Font : Type 0 where
  pub nominal : ℕ → Option GlyphId
  pub advance : GlyphId → ℤ
  pub applies : ℕ → List GlyphId → Bool → Bool
  pub offers : hb_tag_t → Bool

-- the character of the dotted circle
abbrev pub dotted_circle : ℕ
dotted_circle = 0x25CC

-- whether the font has a glyph for a character
abbrev pub has_nominal : Font → ℕ → Bool
has_nominal font c = is_some (font.nominal c)

-- the tables of characters: how one joins, its general category, its Indic category and position,
-- its category in the universal shaper, and the canonical pairs
pub record CharacterTables : Type 0 where
  pub joining : ℕ → hb_arabic_joining_type_t
  pub general : ℕ → hb_unicode_general_category_t
  pub indic : ℕ → ℕ × ℕ
  pub universal : ℕ → ℕ
  pub composed : ℕ → ℕ → Option ℕ
  pub decomposed : ℕ → Option (ℕ × ℕ)
