-- What the checked call says of the pause.
use Rattle.shapers_buffer.specs.declared.buffer.refusal.ShaperError.TheVariants.{TooLong}
use Rattle.rustybuzz_shapers.specs.declared.shaper.checked.CallError.TheVariants as call
use Rattle.shapers_pipeline.proofs.StageLengths.{passed_on, pause_long, pause_room, told_error}
use Rattle.shapers_pipeline.proofs.stages.run_stage_pause.Goals as goal

pub returns-in_err-checked_run_pause_found-clause-refusal : goal.returns-in_err-checked_run_pause_found-clause-refusal
returns-in_err-checked_run_pause_found-clause-refusal g c =
    let x = c.in_err-checked_run_pause_found.field-0.0 in
    told_error c.from_residual.result x _ c.from_residual.ensures.1
    (c.in_err-checked_run_pause_found.ensures.conditions, c.in_err-checked_run_pause_found.ensures.refusal)

pub returns-clause-length : goal.returns-clause-length
returns-clause-length g c =
    let run = c.in_ok-checked_run_pause_found.ensures.ok in
    pause_long c.args.pause c.args.plan.now (g.F.hb_font_t.font c.args.font.now) run.spans c.args.buffer.now
    c.checked_run_pause_found.new.buffer run.kept

pub returns-in_err-checked_run_pause_found-clause-room : goal.returns-in_err-checked_run_pause_found-clause-room
returns-in_err-checked_run_pause_found-clause-room g c fits e =
    let x = c.in_err-checked_run_pause_found.field-0.0 in
    pause_room c.args.pause (g.F.hb_font_t.font c.args.font.now) c.args.buffer.now x fits
    c.in_err-checked_run_pause_found.ensures.refusal
    (passed_on c.from_residual.result x (call.Refused TooLong) c.from_residual.ensures.1 e)
