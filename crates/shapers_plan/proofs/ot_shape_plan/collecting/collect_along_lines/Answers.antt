use Rattle.std.proofs.Common.{◌≡◌, ◌∙◌, Bool, true, [], ◌∷◌, ap, sym}
use Rattle.std.specs.Prelude.{if◌then◌else◌}
use Rattle.shapers_base.specs.Planner.{enabled, with_requests}
use Rattle.shapers_choice.specs.Choice.{is_horizontal}
use Rattle.shapers_plan.specs.Collecting.{horizontal}
use Rattle.shapers_plan.specs.declared.ot_map.masks.TheConstants.{F_GLOBAL_SEARCH}
use Rattle.shapers_plan.proofs.ot_shape_plan.collecting.collect_along_lines.Goals as goal

pub returns-in_ok-add_requests-clause-ok : goal.returns-in_ok-add_requests-clause-ok
returns-in_ok-add_requests-clause-ok c =
    let test : true ≡ is_horizontal c.args.direction = sym c.if-is_horizontal.true ∙ c.is_horizontal.ensures in
    c.in_ok-add_requests.ensures.ok
    ∙ ap (λ (b : Bool). with_requests (if b then horizontal else enabled F_GLOBAL_SEARCH "vert" ∷ []) c.args.planner.now) test
