-- What Unicode says of a character, as a text is prepared by it.
use Rattle.std.specs.Prelude.{ℕ, Bool, Option}
use Rattle.shapers_buffer.specs.declared.buffer.category.hb_unicode_general_category_t.{hb_unicode_general_category_t}

-- the general category, the class by which marks are ordered, whether the character need not be
-- drawn, whether it is a pictograph of emoji, its mirrored character, its form for vertical text
pub record CharacterProperties : Type 0 where
  pub general : ℕ → hb_unicode_general_category_t
  pub class : ℕ → ℕ
  pub ignorable : ℕ → Bool
  pub pictographic : ℕ → Bool
  pub mirroring : ℕ → Option ℕ
  pub vertical : ℕ → Option ℕ
