use Rattle.std.proofs.Common.{◌≡◌, ◌≤◌, drop}
use Rattle.shapers_plan.specs.Ordered.{many_below, put_all_in_order}
use Rattle.shapers_plan.specs.Stages.{joined_lookups, lookup_number, lookups_like}
use Rattle.shapers_plan.proofs.ot_map.lookups.add_lookups.Given as goal

abbrev pub invariant-loop-index : goal.invariant-loop-index
invariant-loop-index l = record {
  known : l.last.below ≤ many_below lookup_number l.last.number l.list.items;
  rest : put_all_in_order lookup_number joined_lookups l.list.items (lookups_like l.like (drop l.index-index l.indices)) ≡ put_all_in_order lookup_number joined_lookups l.fn.list.items (lookups_like l.like l.indices);
}
