use Rattle.std.proofs.Common.{arith}
use Rattle.std.proofs.lemmas.Option.{slice_get-get_or, slice_get_past}
use Rattle.shapers_buffer.specs.Category.{categories}
use Rattle.shapers_buffer.specs.declared.buffer.category.hb_unicode_general_category_t.TheVariants.{Cn}
use Rattle.shapers_buffer.proofs.buffer.category.hb_unicode_general_category_t.from_number.Goals as goal

pub returns-then-number-lt30 : goal.returns-then-number-lt30
returns-then-number-lt30 c =
    cc (c.from_number_or_unassigned.ensures, slice_get-get_or categories c.args.number Cn (omega arith))

pub returns-else-number-lt30 : goal.returns-else-number-lt30
returns-else-number-lt30 c = search (arith, slice_get_past)
