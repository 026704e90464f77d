use Rattle.std.proofs.Common.{◌∙◌, ap}
use Rattle.shapers_base.specs.Planner.{with_requests}
use Rattle.shapers_plan.specs.Collecting.{along_lines, of_every_text}
use Rattle.shapers_plan.proofs.Requesting.{with_requests-twice}
use Rattle.shapers_plan.proofs.ot_shape_plan.collecting.collect_behind_shaper.Goals as goal

pub returns-clause-ok : goal.returns-clause-ok
returns-clause-ok c =
    let lines = along_lines c.args.direction in
    c.in_ok-collect_along_lines.ensures.ok
    ∙ ap (with_requests lines) c.in_ok-add_requests.ensures.ok
    ∙ with_requests-twice of_every_text lines c.args.planner.now
