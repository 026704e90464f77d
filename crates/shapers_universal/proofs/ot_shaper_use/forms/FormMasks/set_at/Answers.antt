use Rattle.std.proofs.lemmas.Grind.{common_steps}
use Rattle.std.proofs.Common.{arith}
use Rattle.shapers_universal.proofs.ot_shaper_use.forms.FormMasks.set_at.Goals as goal

pub returns : goal.returns
returns c = grind (arith, common_steps)
