-- What normalization reads of Unicode and of a font besides what the shapers read.
use Rattle.std.specs.Prelude.{ℕ, Bool, Option}
use Rattle.shapers_base.specs.declared.font.GlyphId.{GlyphId}

-- the class by which a mark is ordered, and whether a character is ignored by default
pub record TextTables : Type 0 where
  pub class : ℕ → ℕ
  pub ignorable : ℕ → Bool

-- the glyph of a character in the form that a selector selects
abbrev pub VariantForms : Type 0
VariantForms = ℕ → ℕ → Option GlyphId
