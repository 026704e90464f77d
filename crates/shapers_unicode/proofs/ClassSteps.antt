-- Modified combining classes by steps.
use Rattle.std.proofs.Common.{None, refl}
use Rattle.ucd_table.proofs.Stepped.{Stepped, of_rows, map_stepped, zip_stepped}
use Rattle.ucd_table.proofs.StepsLemmas.{rises_from}
use Rattle.ucd_table.specs.Rows.{value_in}
use Rattle.shapers_unicode.specs.Classes.{combining_class, changed_classes, class_exceptions, modified_class}
use Rattle.shapers_unicode.specs.ClassRows.{class_rows}
use Rattle.shapers_unicode.specs.Values.{over}

unfoldable pub class_stepped : Stepped modified_class
unfolding modified_class rises_from class_rows class_exceptions changed_classes
class_stepped =
    zip_stepped over (value_in None class_exceptions)
    (λ c. value_in (combining_class c) changed_classes (combining_class c))
    (of_rows None class_exceptions refl)
    (map_stepped (λ k. value_in k changed_classes k) combining_class (of_rows 0 class_rows refl))
