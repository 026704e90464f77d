use Rattle.shapers_buffer.proofs.ClusterLemmas.{parts_merged_across}
use Rattle.shapers_buffer.proofs.buffer.merging.merge_across.Goals as goal

pub returns-clause-text : goal.returns-clause-text
returns-clause-text c =
    let parts = c.split_at_mut-stretch.ensures in
    parts_merged_across c.args.before.now c.args.rest.now _ _ _ _ _ c.args.count c.least_cluster-least.result c.requires.two
    c.requires.in_range parts.front parts.back c.least_cluster-least.ensures
    c.flood_before.ensures c.set_cluster.ensures c.flood_after.ensures
