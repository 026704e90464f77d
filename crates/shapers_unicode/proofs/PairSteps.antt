-- Mappings by steps.
use Rattle.std.proofs.Common.{[], refl}
use Rattle.ucd_table.proofs.Stepped.{Stepped, of_rows, of_ranges}
use Rattle.ucd_table.proofs.StepsLemmas.{rises_from}
use Rattle.shapers_unicode.specs.CompositionRows.{composition_rows}
use Rattle.shapers_unicode.specs.ExclusionRanges.{exclusion_ranges}
use Rattle.shapers_unicode.specs.MappingRows.{mapping_rows}
use Rattle.shapers_unicode.specs.MirroredRows.{mirrored_rows}
use Rattle.shapers_unicode.specs.Pairs.{canonical_mapping, compositions, is_excluded, mirrored_string}

unfoldable pub mapping_stepped : Stepped canonical_mapping
unfolding rises_from mapping_rows
mapping_stepped = of_rows [] mapping_rows refl

unfoldable pub composition_stepped : Stepped compositions
unfolding rises_from composition_rows
composition_stepped = of_rows [] composition_rows refl

unfoldable pub mirrored_stepped : Stepped mirrored_string
unfolding rises_from mirrored_rows
mirrored_stepped = of_rows [] mirrored_rows refl

unfoldable pub excluded_stepped : Stepped is_excluded
unfolding rises_from exclusion_ranges
excluded_stepped = of_ranges exclusion_ranges refl
