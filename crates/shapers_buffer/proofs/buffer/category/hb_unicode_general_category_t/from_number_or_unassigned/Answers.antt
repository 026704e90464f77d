use Rattle.std.proofs.Common.{arith, sym}
use Rattle.std.proofs.lemmas.List.{get_or_past}
use Rattle.shapers_buffer.specs.Category.{categories}
use Rattle.shapers_buffer.specs.declared.buffer.category.hb_unicode_general_category_t.TheVariants.{Cn}
use Rattle.shapers_buffer.proofs.buffer.category.hb_unicode_general_category_t.from_number_or_unassigned.Goals as goal

pub returns-in_default : goal.returns-in_default
returns-in_default c = sym (get_or_past categories c.args.number Cn (omega (arith, c.in_default)))
