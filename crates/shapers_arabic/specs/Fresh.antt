-- Texts in which no flag of joining is needless.
use Rattle.std.specs.Prelude.{ℕ, ◌≡◌, ◌%◌, true, false, List, Option}
use Rattle.std.specs.List.{AllByRecursion, zip}
use Rattle.shapers_buffer.specs.Glyph.{clusters}
use Rattle.shapers_buffer.specs.Glyphs.{Glyphs}
use Rattle.shapers_buffer.specs.declared.buffer.tag.Script.{Script}
use Rattle.shapers_clusters.specs.Breaks.{IsStrictlyMonotone, is_unsafe}
use Rattle.shapers_arabic.specs.Joining.{is_selector, is_transparent}
use Rattle.shapers_arabic.specs.JoinedText.{Text, is_mongolian}

-- nothing but joining decides which places are clear: each glyph is a cluster of its own, clusters
-- rise or fall along the text, no glyph was flagged before, and no form's mask has a glyph flag bit
pub record IsFresh (masks : List ℕ) (gs : Glyphs) : Type 0 where
  pub single : IsStrictlyMonotone (clusters gs)
  pub unflagged : AllByRecursion (λ g. is_unsafe g ≡ false) gs
  pub unmasked : AllByRecursion (λ m. m % 8 ≡ 0) masks

-- selectors are transparent, or the script isn't Mongolian: with that script, joining passes over
-- each free variation selector of the text, as Unicode has it, and no table makes it a letter
abbrev pub SelectorsAreTransparent : Option Script → Text → Type 0
SelectorsAreTransparent script text =
    is_mongolian script ≡ true →
    AllByRecursion (λ p. is_selector p.0 ≡ true → is_transparent p.1 ≡ true)
    (zip text.characters text.types)
