-- One glyph more has gone back behind the others.
use Rattle.std.proofs.lemmas.List.{append-nil}
use Rattle.std.proofs.Common.{arith}
use Rattle.shapers_buffer.proofs.Placements.{turned_more}
use Rattle.shapers_buffer.proofs.buffer.placement.bring_first.Goals as goal

pub loop-init : goal.loop-init
loop-init = search (arith, append-nil)

pub loop-preserved : goal.loop-preserved
loop-preserved = search (arith, turned_more)
