-- The classes of glyphs in a table.
use Rattle.std.specs.Prelude.{ℕ, ◌<◌, ◌≡◌, true, List, length, slice_index, Option, None, Some, if◌then◌else◌}
use Rattle.opentype_face.specs.Classes.{has_classes, props_of}

-- the table says of each glyph that it has what GDEF says of it, and is empty where the font has
-- no classes
pub record TellsClasses (gdef props : List ℕ) : Type 0 where
  pub has : 0 < length props → has_classes gdef ≡ true
  pub same : (glyph : ℕ) → glyph < length props → slice_index props glyph ≡ props_of gdef glyph

-- the class of a glyph in a font that has classes
abbrev pub props_if_any : List ℕ → ℕ → Option ℕ
props_if_any gdef glyph = if has_classes gdef then Some (props_of gdef glyph) else None
