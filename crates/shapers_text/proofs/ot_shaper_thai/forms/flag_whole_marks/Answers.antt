-- One more character: a mark, or another that flags the marks before it.
use Rattle.shapers_clusters.proofs.Flagging.{unsafe_nothing}
use Rattle.std.proofs.Common.{arith}
use Rattle.std.proofs.lemmas.List.{get_or-map}
use Rattle.shapers_text.proofs.ThaiWholeMarks.{whole_mark, whole_other}
use Rattle.shapers_text.proofs.ot_shaper_thai.forms.flag_whole_marks.Goals as goal

pub loop-i-init : goal.loop-i-init
loop-i-init = search (arith, unsafe_nothing)

pub loop-i-preserved : goal.loop-i-preserved
loop-i-preserved = search (arith, whole_other, get_or-map, whole_mark)
