-- One list of requests after another.
use Rattle.std.proofs.Common.{◌≡◌, ◌++◌, List, ap, append_assoc}
use Rattle.shapers_base.specs.Planner.{Planner, with_requests}
use Rattle.shapers_base.specs.declared.plan.planner.Request.{Request}

pub with_requests-twice : (xs ys : List Request) (p : Planner) → with_requests ys (with_requests xs p) ≡ with_requests (xs ++ ys) p
with_requests-twice xs ys p =
    ap (λ rs. let q : Planner = record p { requests = rs } in q) (append_assoc p.requests xs ys)
