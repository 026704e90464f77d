-- One glyph back: a halant, or none.
use Rattle.std.proofs.Common.{arith}
use Rattle.shapers_universal.proofs.OneFront.{start_back}
use Rattle.shapers_universal.proofs.ot_shaper_use.ordering.piece_start.Goals as goal

pub loop-end-init : goal.loop-end-init
loop-end-init = search arith

pub returns-then-is_halant-clause-start : goal.returns-then-is_halant-clause-start
returns-then-is_halant-clause-start = search (arith, start_back)

pub loop-end-preserved : goal.loop-end-preserved
loop-end-preserved = search (arith, start_back)

pub returns-clause-start : goal.returns-clause-start
returns-clause-start = search arith
