use Rattle.shapers_clusters.proofs.FlagCalls.{flags-or}
use Rattle.std.proofs.Common.{arith}
use Rattle.shapers_universal.proofs.ot_shaper_use.forms.FormMasks.of.Goals as goal

pub returns-clause-off_flags : goal.returns-clause-off_flags
returns-clause-off_flags = search (arith, flags-or)
