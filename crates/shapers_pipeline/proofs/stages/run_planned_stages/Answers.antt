-- One more stage, and the room that it has.
use Rattle.std.proofs.Common.{rules, ◌∙◌, ◌<◌, arith, length}
use Rattle.shapers_buffer.specs.declared.buffer.refusal.ShaperError.TheVariants.{TooLong}
use Rattle.rustybuzz_shapers.specs.declared.shaper.checked.CallError.TheVariants as call
use Rattle.shapers_plan.specs.declared.ot_map.lookups.StageLookup.{StageLookup}
use Rattle.shapers_pipeline.specs.Stages.{Substitution}
use Rattle.shapers_pipeline.proofs.StageLengths.{passed_error, passed_on, run_next, stage_fits, stage_step, stopped_here, stopped_next, told_error}
use Rattle.shapers_pipeline.proofs.stages.run_planned_stages.Goals as goal

pub returns-in_err-run_stage-clause-room : goal.returns-in_err-run_stage-clause-room
returns-in_err-run_stage-clause-room g c fits e =
    let l = c.loop-stage in
    let it = c.args.lookups.now in
    let growth = g.L.Lookups.growth_of it in
    let plan = c.args.plan.now in
    let some : (lookup : StageLookup) → 0 < growth lookup =
    λ x. omega (arith, (g.met.L.Lookups.substituting_grows it x l.buffer l.invariant.positions).one) in
    let within : l.stage-index < length plan.stages.now = omega (arith, c.loop-stage-test.true) in
    let room = c.in_err-run_stage.ensures.room
    (stage_fits growth some plan.lookups.now plan.stages.now l.stage-index (length l.buffer.glyphs) l.buffer.max_len _
    within (omega (arith, l.invariant.few, l.invariant.limit, fits))) in
    room (passed_error c.in_err-run_stage.field-0.0
    (passed_on c.from_residual.result c.in_err-run_stage.field-0.0 (call.Refused TooLong) c.from_residual.ensures.1 e))

pub returns-in_err-run_stage-clause-err : goal.returns-in_err-run_stage-clause-err
returns-in_err-run_stage-clause-err g c =
    let l = c.loop-stage in
    let it = c.args.lookups.now in
    let plan = c.args.plan.now in
    let x = c.in_err-run_stage.field-0.0 in
    let new = c.run_stage.new.buffer in
    let within : l.stage-index < length plan.stages.now = omega (arith, c.loop-stage-test.true) in
    let r : Substitution = record {
      plan = plan.plan.now;
      font = g.F.hb_font_t.font c.args.font.now;
      substituted = g.L.Lookups.substituted it;
      list = plan.lookups.now;
    } in
    told_error c.from_residual.result x _ c.from_residual.ensures.1
    (l.invariant.stopped new x (stopped_here r (g.L.Lookups.substituting_refuses it) plan.stages.now l.stage-index _ l.buffer new x
    within c.in_err-run_stage.ensures.err))

pub loop-stage-preserved : goal.loop-stage-preserved
loop-stage-preserved g c =
    let l = c.loop-stage in
    let plan = c.args.plan.now in
    let within : l.stage-index < length plan.stages.now = omega (arith, c.loop-stage-test.true) in
    let mid = c.run_stage.new.buffer in
    let r : Substitution = record {
      plan = plan.plan.now;
      font = g.F.hb_font_t.font c.args.font.now;
      substituted = g.L.Lookups.substituted c.args.lookups.now;
      list = plan.lookups.now;
    } in
    record {
      positions = search rules;
      limit = c.run_stage.ensures.limit ∙ l.invariant.limit;
      few = stage_step (g.L.Lookups.growth_of c.args.lookups.now) plan.lookups.now plan.stages.now l.stage-index
          (length l.buffer.glyphs) (length mid.glyphs) _ _ within c.in_ok-run_stage.ensures.length
          l.invariant.few;
      run = λ new rest. l.invariant.run new
          (run_next r plan.stages.now l.stage-index _ l.buffer mid new within c.in_ok-run_stage.ensures.ok rest);
      stopped = λ new e rest. l.invariant.stopped new e
          (stopped_next r (g.L.Lookups.substituting_refuses c.args.lookups.now) plan.stages.now l.stage-index _ l.buffer mid new e
          within c.in_ok-run_stage.ensures.ok rest);
    }
