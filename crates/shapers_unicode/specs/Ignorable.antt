-- The characters that a font need not draw.
use Rattle.std.specs.Prelude.{ℕ, Bool, not, ◌&&◌, List, [], ◌∷◌}
use Rattle.ucd_table.specs.Rows.{Range, in_ranges}
use Rattle.shapers_unicode.specs.IgnorableRanges.{ignorable_ranges}

-- Unicode's Default_Ignorable_Code_Point
abbrev pub ignorable_property : ℕ → Bool
ignorable_property = in_ranges ignorable_ranges

-- Those among them that fonts draw: Hangul's fillers and Duployan's format controls (HarfBuzz).
unfoldable pub drawn_ranges : List Range
drawn_ranges = (0x115F, 0x1160) ∷ (0x3164, 0x3164) ∷ (0xFFA0, 0xFFA0) ∷ (0x1BCA0, 0x1BCA3) ∷ []

unfoldable pub default_ignorable : ℕ → Bool
default_ignorable c = ignorable_property c && not (in_ranges drawn_ranges c)
