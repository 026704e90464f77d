-- General categories by steps.
use Rattle.std.proofs.Common.{refl}
use Rattle.ucd_table.proofs.Stepped.{Stepped, of_rows}
use Rattle.ucd_table.proofs.StepsLemmas.{rises_from}
use Rattle.shapers_buffer.specs.declared.buffer.category.hb_unicode_general_category_t.TheVariants as values
use Rattle.shapers_unicode.specs.General.{category_of_character}
use Rattle.shapers_unicode.specs.GeneralRows.{general_rows}

unfoldable pub general_stepped : Stepped category_of_character
unfolding category_of_character rises_from general_rows
general_stepped = of_rows values.Cn general_rows refl
