use Rattle.std.proofs.Common.{◌≡◌, ◌∙◌, ap}
use Rattle.std.specs.List.{filter_map}
use Rattle.shapers_arabic.specs.Requests.{rclt}
use Rattle.shapers_plan.specs.Collecting.{requests_for, text_shaper}
use Rattle.shapers_plan.specs.Planning.{plan_of_requests, range_of_user}
use Rattle.shapers_plan.proofs.PlanLemmas.{plan-of-requests}
use Rattle.shapers_plan.proofs.ot_shape_plan.EnginePlan.with_choices.Goals as goal

pub returns-clause-ok : goal.returns-clause-ok
returns-clause-ok g c =
    let tables = g.L.FontFeatures.tables c.args.features.now in
    let shaper = c.text_shaper-shaper.result in
    let script = c.args.script in
    let direction = c.args.direction in
    let users = c.args.users.now in
    let choices = c.args.choices in
    let has_rclt = (g.F.hb_font_t.font c.args.face.now).offers rclt in
    let rs = c.requests.result.now in
    let it = c.in_ok-compiled.compiled in
    let compiled = c.in_ok-compiled.ensures in
    let requested : c.requests.result.now ≡ requests_for shaper script direction has_rclt users = c.requests.ensures ∙ c.in_ok-planner.ensures.ok in
    let ranged = c.in_ok-ranges.ensures.ok ∙ ap (λ fs. filter_map (range_of_user fs) users) c.as_slice.ensures.value in
    let shaped = c.text_shaper-shaper.ensures ∙ ap (text_shaper script direction) c.chosen_script.ensures in
    plan-of-requests tables shaper script direction users choices rs it.features.items it.stages.items it.lookups.items
    c.takes_gpos.result it.positioning.items _ c.hooks_plan.result c.driver_masks-masks.result
    c.in_ok-ranges.ranges.items compiled.features compiled.stages compiled.lookups c.takes_gpos.ensures
    compiled.positioning compiled.map c.hooks_plan.ensures c.driver_masks-masks.ensures ranged
    ∙ ap (plan_of_requests tables shaper script direction users choices) requested
    ∙ ap (λ s. plan_of_requests tables s script direction users choices
    (requests_for s script direction has_rclt users)) shaped
