use Rattle.std.proofs.Common.{arith}
use Rattle.std.proofs.lemmas.Grind.{common_steps, widths}
use Rattle.shapers_universal.proofs.ot_shaper_use.forms.FormMasks.all.Goals as goal

pub returns-clause-fits : goal.returns-clause-fits
returns-clause-fits c = grind (arith, common_steps, widths)
