use Rattle.std.proofs.Common.{arith}
use Rattle.shapers_syllabic.proofs.SetupFlags.{same_added}
use Rattle.shapers_universal.proofs.UniversalFlags.{in_forms_added}
use Rattle.shapers_universal.proofs.ot_shaper_use.forms.set_forms.Goals as goal

pub returns-then-all-ne0-clause-flags : goal.returns-then-all-ne0-clause-flags
returns-then-all-ne0-clause-flags = search (arith, in_forms_added)

pub returns-else-all-ne0-clause-flags : goal.returns-else-all-ne0-clause-flags
returns-else-all-ne0-clause-flags = search same_added
