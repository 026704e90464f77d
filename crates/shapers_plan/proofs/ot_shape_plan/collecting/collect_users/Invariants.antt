use Rattle.std.proofs.Common.{◌≡◌, drop, map}
use Rattle.shapers_base.specs.Planner.{with_requests}
use Rattle.shapers_plan.specs.Collecting.{request_of_user}
use Rattle.shapers_plan.proofs.ot_shape_plan.collecting.collect_users.Given as goal

abbrev pub invariant-loop-user : goal.invariant-loop-user
invariant-loop-user l = with_requests (map request_of_user (drop l.user-index l.users)) l.planner ≡ with_requests (map request_of_user l.users) l.fn.planner
