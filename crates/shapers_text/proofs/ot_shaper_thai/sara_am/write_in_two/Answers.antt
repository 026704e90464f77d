-- The start, one more step, and the end.
use Rattle.std.proofs.Common.{arith}
use Rattle.shapers_text.proofs.ThaiSaraAm.{written_none, written_all}
use Rattle.shapers_text.proofs.ot_shaper_thai.sara_am.write_in_two.Goals as goal

pub loop-unwritten-init : goal.loop-unwritten-init
loop-unwritten-init = search (arith, written_none)

pub loop-unwritten-preserved : goal.loop-unwritten-preserved
loop-unwritten-preserved = search arith

pub returns : goal.returns
returns c = search (arith, written_all)
