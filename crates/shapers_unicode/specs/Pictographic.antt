-- The pictographs of emoji.
use Rattle.std.specs.Prelude.{ℕ, Bool}
use Rattle.ucd_table.specs.Rows.{in_ranges}
use Rattle.shapers_unicode.specs.PictographicRanges.{pictographic_ranges}

-- Unicode's Extended_Pictographic: false where the data file has no line
unfoldable pub extended_pictographic : ℕ → Bool
extended_pictographic = in_ranges pictographic_ranges
