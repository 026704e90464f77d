-- What the universal grammar passes over: CGJ (category 6), and ZWNJ (14) before a mark.
use Rattle.std.specs.Prelude.{◌==◌, ◌||◌, ◌&&◌, Bool, false, [], ◌∷◌, if◌then◌else◌}
use Rattle.shapers_buffer.specs.Glyphs.{Glyphs}
use Rattle.shapers_buffer.specs.Category.{is_mark}
use Rattle.shapers_buffer.specs.Properties.{general_category}

-- whether the first glyph that isn't CGJ is a mark
abbrev pub next_is_mark : Glyphs → Bool
next_is_mark [] = false
next_is_mark (g ∷ gs) =
    if g.category == 6 then next_is_mark gs else is_mark (general_category g.unicode_props)

-- whether the text begins with a glyph that is passed over
abbrev pub begins_passed : Glyphs → Bool
begins_passed [] = false
begins_passed (g ∷ gs) = (g.category == 6) || ((g.category == 14) && next_is_mark gs)

-- for the grammars that read each glyph
abbrev pub none_passed : Glyphs → Bool
none_passed gs = false
