-- One glyph more has come past the others.
use Rattle.std.proofs.lemmas.List.{take_all, drop_all}
use Rattle.std.proofs.Common.{arith}
use Rattle.shapers_buffer.proofs.Placements.{rotated_more}
use Rattle.shapers_buffer.proofs.buffer.placement.bring_last.Goals as goal

pub loop-init : goal.loop-init
loop-init = search (arith, drop_all, take_all)

pub loop-preserved : goal.loop-preserved
loop-preserved = search (arith, rotated_more)
