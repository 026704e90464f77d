-- Pictographs by steps.
use Rattle.std.proofs.Common.{refl}
use Rattle.ucd_table.proofs.RunsLemmas.{one_if}
use Rattle.ucd_table.proofs.Stepped.{Stepped, of_ranges, map_stepped}
use Rattle.ucd_table.proofs.StepsLemmas.{rises_from}
use Rattle.shapers_unicode.specs.Pictographic.{extended_pictographic}
use Rattle.shapers_unicode.specs.PictographicRanges.{pictographic_ranges}

unfoldable pub pictographic_stepped : Stepped extended_pictographic
unfolding extended_pictographic rises_from pictographic_ranges
pictographic_stepped = of_ranges pictographic_ranges refl

abbrev pub number_stepped : Stepped (λ c. one_if (extended_pictographic c))
number_stepped = map_stepped one_if extended_pictographic pictographic_stepped
