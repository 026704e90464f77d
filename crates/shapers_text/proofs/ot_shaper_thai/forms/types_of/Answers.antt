use Rattle.std.proofs.Common.{arith}
use Rattle.shapers_text.proofs.ThaiTypes.{types_read}
use Rattle.shapers_text.proofs.ot_shaper_thai.forms.types_of.Goals as goal

pub returns-then-i-lt96 : goal.returns-then-i-lt96
returns-then-i-lt96 c = search (arith, types_read)
