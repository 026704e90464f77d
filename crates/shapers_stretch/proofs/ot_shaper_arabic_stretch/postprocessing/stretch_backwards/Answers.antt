use Rattle.std.proofs.Common.{arith}
use Rattle.shapers_stretch.proofs.Postprocessing.{turned_ok, turned_refuses}
use Rattle.shapers_stretch.proofs.ot_shaper_arabic_stretch.postprocessing.stretch_backwards.Goals as goal

pub returns-clause-ok : goal.returns-clause-ok
returns-clause-ok = search (arith, turned_ok)

pub returns-clause-refusal : goal.returns-clause-refusal
returns-clause-refusal = search (arith, turned_refuses)
