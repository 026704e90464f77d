use Rattle.std.proofs.Common.{arith}
use Rattle.std.proofs.lemmas.List.{take_at}
use Rattle.shapers_buffer.proofs.buffer.placements.gather_spare.Goals as goal

pub returns-clause-gathered : goal.returns-clause-gathered
returns-clause-gathered c = search (arith, take_at)
