-- Ignorable characters by steps.
use Rattle.std.proofs.Common.{not, ◌&&◌, refl}
use Rattle.ucd_table.proofs.Stepped.{Stepped, of_ranges, zip_stepped}
use Rattle.ucd_table.proofs.StepsLemmas.{rises_from}
use Rattle.ucd_table.specs.Rows.{in_ranges}
use Rattle.shapers_unicode.specs.Ignorable.{default_ignorable, drawn_ranges, ignorable_property}
use Rattle.shapers_unicode.specs.IgnorableRanges.{ignorable_ranges}

unfoldable pub property_stepped : Stepped ignorable_property
unfolding rises_from ignorable_ranges
property_stepped = of_ranges ignorable_ranges refl

unfoldable pub ignorable_stepped : Stepped default_ignorable
unfolding default_ignorable rises_from drawn_ranges property_stepped
ignorable_stepped =
    zip_stepped (λ i d. i && not d) ignorable_property (in_ranges drawn_ranges) property_stepped
    (of_ranges drawn_ranges refl)
