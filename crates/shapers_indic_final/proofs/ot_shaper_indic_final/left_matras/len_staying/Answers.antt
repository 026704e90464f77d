-- One place more, which has stayed or not.
use Rattle.std.proofs.Common.{arith}
use Rattle.shapers_indic_final.proofs.LeftMatraPlaces.{counted_no, counted_yes}
use Rattle.shapers_indic_final.proofs.ot_shaper_indic_final.left_matras.len_staying.Goals as goal

pub loop-j-preserved : goal.loop-j-preserved
loop-j-preserved = search (arith, counted_yes, counted_no)

pub returns : goal.returns
returns = search arith
