use Rattle.shapers_buffer.specs.Properties.{general_category}
use Rattle.shapers_buffer.proofs.buffer.unicode_props.UnicodeProps.general_category.Goals as goal

pub returns : goal.returns
unfolding general_category
returns c = c.from_number_or_unassigned.ensures
