-- A merge in the range, or one that goes on from it.
use Rattle.std.proofs.Common.{arith}
use Rattle.shapers_buffer.proofs.RunLemmas.{merged_inside_run}
use Rattle.shapers_buffer.proofs.buffer.cluster_ranges.merge_two.Goals as goal
use Rattle.shapers_buffer.proofs.buffer.cluster_ranges.merge_two.Goals.{then-end-range, else-end-range}

pub returns-then-start-range-clause-merged : goal.returns-then-start-range-clause-merged
returns-then-start-range-clause-merged c = elim c.if-end-range.branch [
  | then-end-range w ↦
      search (arith, merged_inside_run)
  | else-end-range w ↦ search (arith, w.grown.ensures.merged)
]
