-- At level Characters nothing changes.
use Rattle.std.proofs.Common.{arith}
use Rattle.shapers_buffer.proofs.ClusterLemmas.{three_parts}
use Rattle.shapers_indic_final.proofs.ot_shaper_indic_final.left_matras.merge_stretch.Goals as goal

pub returns-in-Characters : goal.returns-in-Characters
returns-in-Characters = search (arith, three_parts)
