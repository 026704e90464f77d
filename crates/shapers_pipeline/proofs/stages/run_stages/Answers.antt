-- The stages run in the plan's script and direction, and then the text has its own again.
use Rattle.std.proofs.Common.{◌∙◌, ◌≤◌, ap, length, refl, subst, sym}
use Rattle.std.proofs.lemmas.Result.{on_ok_weaker}
use Rattle.shapers_buffer.specs.Buffer.{Buffer}
use Rattle.shapers_pipeline.specs.Lengths.{stages_bound}
use Rattle.shapers_pipeline.specs.Stages.{StagesRun, StagesStopped, Substitution}
use Rattle.shapers_pipeline.proofs.PutBack.{if_err_weaker, is_put_back}
use Rattle.shapers_pipeline.proofs.stages.run_stages.Goals as goal

pub run_planned_stages-run-requires : goal.run_planned_stages-run-requires
run_planned_stages-run-requires g c = ap (λ (b : Buffer). b.positions) c.set_script_and_direction.ensures ∙ c.requires

pub returns-clause-ok : goal.returns-clause-ok
returns-clause-ok g c =
    let r : Substitution = record {
      plan = c.args.plan.now.plan.now;
      font = g.F.hb_font_t.font c.args.font.now;
      substituted = g.L.Lookups.substituted c.args.lookups.now;
      list = c.args.plan.now.lookups.now;
    } in
    let call = c.run_planned_stages-run in
    let last = call.new.buffer in
    on_ok_weaker call.result (λ run. (
      last,
      (
        subst (λ b. StagesRun r c.args.plan.now.stages.now b last) c.set_script_and_direction.ensures run,
        is_put_back c.args.buffer.now last last _ c.script-script.ensures c.direction-direction.ensures
            c.set_script_and_direction-2.ensures refl,
      ),
    )) call.ensures.ok

pub returns-clause-err : goal.returns-clause-err
returns-clause-err g c =
    let r : Substitution = record {
      plan = c.args.plan.now.plan.now;
      font = g.F.hb_font_t.font c.args.font.now;
      substituted = g.L.Lookups.substituted c.args.lookups.now;
      list = c.args.plan.now.lookups.now;
    } in
    let call = c.run_planned_stages-run in
    let left = call.new.buffer in
    let refusals = g.L.Lookups.substituting_refuses c.args.lookups.now in
    if_err_weaker call.result (λ e stopped. (
      left,
      (
        subst (λ b. StagesStopped r refusals c.args.plan.now.stages.now b left e) c.set_script_and_direction.ensures stopped,
        is_put_back c.args.buffer.now left left _ c.script-script.ensures c.direction-direction.ensures
            c.set_script_and_direction-2.ensures refl,
      ),
    )) call.ensures.err

pub returns-clause-room : goal.returns-clause-room
returns-clause-room g c fits =
    let growth = g.L.Lookups.growth_of c.args.lookups.now in
    c.run_planned_stages-run.ensures.room (subst (λ (b : Buffer).
    stages_bound growth c.args.plan.now.lookups.now c.args.plan.now.stages.now (length b.glyphs) ≤ b.max_len)
    (sym c.set_script_and_direction.ensures) fits)

pub returns-clause-positions : goal.returns-clause-positions
returns-clause-positions g c =
    let call = c.run_planned_stages-run in
    on_ok_weaker call.result (λ none. ap (λ (b : Buffer). b.positions) c.set_script_and_direction-2.ensures ∙ none) call.ensures.positions
