use Rattle.std.proofs.Common.{◌≡◌, ◌≤◌, drop}
use Rattle.shapers_plan.specs.Ordered.{many_below, put_all_in_order}
use Rattle.shapers_plan.specs.Requests.{infos_after, joined_infos, joined_by_tag, tag_number}
use Rattle.shapers_plan.proofs.ot_map.requests.joined_by_tag.Given as goal

abbrev pub invariant-loop-request : goal.invariant-loop-request
invariant-loop-request l = record {
  few : l.stage ≤ l.request-index;
  known : l.last.below ≤ many_below tag_number l.last.number l.infos.items;
  rest : put_all_in_order tag_number joined_infos l.infos.items (infos_after l.stage (drop l.request-index l.requests)) ≡ joined_by_tag l.requests;
}
