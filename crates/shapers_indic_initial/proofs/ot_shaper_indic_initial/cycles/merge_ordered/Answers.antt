-- All from the base on, or by cycles.
use Rattle.std.proofs.Common.{arith}
use Rattle.shapers_indic_initial.proofs.CycleSteps.{length-places_from, merged_from_base, once_listed}
use Rattle.shapers_indic_initial.proofs.ot_shaper_indic_initial.cycles.merge_ordered.Goals as goal

pub returns-then-merges_all-clause-merged : goal.returns-then-merges_all-clause-merged
returns-then-merges_all-clause-merged c =
    merged_from_base c.args.start c.args.end c.args.base c.args.is_old_spec c.args.buffer.now c.merge_clusters.new.self
    c.requires.in_order (search arith) (search arith)

pub merge_cycles-requires-clause-once : goal.merge_cycles-requires-clause-once
merge_cycles-requires-clause-once = search (arith, once_listed)

pub returns-clause-merged : goal.returns-clause-merged
returns-clause-merged = search (arith, length-places_from)
