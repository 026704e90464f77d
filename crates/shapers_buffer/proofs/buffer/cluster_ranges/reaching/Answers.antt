-- Glyphs that are in the range's cluster stay when they join it.
use Rattle.std.proofs.Common.{arith}
use Rattle.shapers_buffer.proofs.RunLemmas.{reaching_least, reaching_same}
use Rattle.shapers_buffer.proofs.buffer.cluster_ranges.reaching.Goals as goal

pub returns-then-are_in-clause-same : goal.returns-then-are_in-clause-same
returns-then-are_in-clause-same = search (arith, reaching_same)

pub returns-then-are_in-clause-fits : goal.returns-then-are_in-clause-fits
returns-then-are_in-clause-fits = search (arith, reaching_least)
