-- What normalization reads of the shaper, the font and Unicode.
use Rattle.std.specs.Prelude.{ℕ, Bool, Option, is_some}
use Rattle.shapers_base.specs.declared.font.GlyphId.{GlyphId}
use Rattle.shapers_base.specs.declared.plan.record.NormalizationMode.{NormalizationMode}
use Rattle.shapers_buffer.specs.declared.buffer.category.hb_unicode_general_category_t.{hb_unicode_general_category_t}
use Rattle.shapers_buffer.specs.Glyphs.{Glyphs}
use Rattle.shapers_buffer.specs.declared.buffer.level.BufferClusterLevel.{BufferClusterLevel}

-- Of the shaper: which form it prefers, the two characters that one comes apart into (the second 0
-- where there is one alone), the character that two compose to, and its order of a sequence of
-- marks, from its first place to the place behind its last. Of the font: the glyph of a character,
-- and of a character in the form that a variation selector selects. Of Unicode: the general
-- category of a character, its combining class as the shapers renumber it, and whether it is
-- ignored by default. And the glyph that stands for what isn't drawn, if the caller has one, and
-- whether the caller has one for selectors that select nothing.
pub record Context : Type 0 where
  pub mode : NormalizationMode
  pub decomposed : ℕ → Option (ℕ × ℕ)
  pub composed : ℕ → ℕ → Option ℕ
  pub reordered : BufferClusterLevel → ℕ → ℕ → Glyphs → Glyphs
  pub nominal : ℕ → Option GlyphId
  pub variant : ℕ → ℕ → Option GlyphId
  pub general : ℕ → hb_unicode_general_category_t
  pub class : ℕ → ℕ
  pub ignorable : ℕ → Bool
  pub invisible : Option GlyphId
  pub draws_selectors : Bool

-- whether the font has a glyph for a character
abbrev pub has_glyph : Context → ℕ → Bool
has_glyph context c = is_some (context.nominal c)
