-- A stretch of one place, or none, has no flags.
use Rattle.std.proofs.Common.{arith}
use Rattle.shapers_clusters.proofs.Flagging.{unsafe_few}
use Rattle.shapers_text.proofs.ot_shaper_thai.forms.flag_marks.Goals as goal

pub returns-else-end-base-gt2 : goal.returns-else-end-base-gt2
returns-else-end-base-gt2 = search (arith, unsafe_few)
