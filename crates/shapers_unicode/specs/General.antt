-- The general category of a code point.
use Rattle.std.specs.Prelude.{ℕ}
use Rattle.ucd_table.specs.Rows.{value_in}
use Rattle.shapers_buffer.specs.declared.buffer.category.hb_unicode_general_category_t.{hb_unicode_general_category_t}
use Rattle.shapers_buffer.specs.declared.buffer.category.hb_unicode_general_category_t.TheVariants.{Cn}
use Rattle.shapers_unicode.specs.GeneralRows.{general_rows}

-- Unicode's General_Category: unassigned where the data file has no line
unfoldable pub category_of_character : ℕ → hb_unicode_general_category_t
category_of_character = value_in Cn general_rows
