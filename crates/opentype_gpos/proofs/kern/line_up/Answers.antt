use Rattle.std.proofs.Common.{arith, rules}
use Rattle.opentype_gpos.proofs.Kerning.{line_of_none}
use Rattle.opentype_gpos.proofs.kern.line_up.Goals as goal

pub returns-else-not-is_empty : goal.returns-else-not-is_empty
returns-else-not-is_empty c = line_of_none _ _ _ c.set_steps.ensures (search (arith, rules))
