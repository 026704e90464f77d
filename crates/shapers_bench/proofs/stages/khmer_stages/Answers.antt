use Rattle.std.proofs.Common.{◌≢◌, ℕ, [], ◌∷◌, ap, false, subst, sym}
use Rattle.shapers_buffer.specs.Buffer.{Buffer}
use Rattle.shapers_buffer.specs.Glyph.{clusters}
use Rattle.shapers_buffer.specs.declared.buffer.level.Direction.TheVariants.{LeftToRight}
use Rattle.shapers_buffer.specs.declared.buffer.refusal.ShaperError.TheVariants.{UnknownSyllable}
use Rattle.rustybuzz_shapers.specs.declared.shaper.checked.CallError.TheVariants as call
use Rattle.shapers_pipeline.specs.Planned.{as_planned}
use Rattle.shapers_plan.specs.Stages.{applied_always}
use Rattle.shapers_clusters.specs.Cuts.{IsMonotone}
use Rattle.shapers_plan.specs.declared.ot_map.lookups.Stage.{Stage}
use Rattle.shapers_bench.proofs.KhmerStages.{stages-know, stages-sorted, told-on}
use Rattle.shapers_bench.proofs.stages.khmer_stages.Goals as goal

pub returns-clause-sorted : goal.returns-clause-sorted
returns-clause-sorted g c =
    let run = c.in_ok-run_stages.ensures.ok in
    let pause = λ (s : Stage). s.pause in
    let plan = c.with_data-plan.result in
    let font = g.F.hb_font_t.font c.args.font.now in
    subst (λ (b : Buffer). IsMonotone (clusters b.glyphs)) (sym run.1.1)
    (stages-sorted c.found_pauses_law.ensures.khmer c.pipeline_clusters_law.ensures.stages plan font
    c.args.singles.now (applied_always ∷ [])
    c.stage.result c.stage-2.result c.stage-3.result _ c.args.word.now (g.T.Tables.tables c.args.tables.now)
    plan.script LeftToRight
    c.in_ok-buffer.buffer c.setup_masks.new.buffer run.0 (ap pause c.stage.ensures) (ap pause c.stage-2.ensures)
    (ap pause c.stage-3.ensures) c.in_ok-buffer.ensures.word c.setup_masks.ensures.masks run.1.0)

pub returns-in_err-run_stages-clause-known : goal.returns-in_err-run_stages-clause-known
returns-in_err-run_stages-clause-known g c =
    let pause = λ (s : Stage). s.pause in
    let plan = c.with_data-plan.result in
    let font = g.F.hb_font_t.font c.args.font.now in
    let x = c.in_err-run_stages.field-0.0 in
    let stop = c.in_err-run_stages.ensures.err in
    told-on c.from_residual-in_err-run_stages.result x
    (λ e. (place : ℕ) → e ≢ call.Refused (UnknownSyllable place)) c.from_residual-in_err-run_stages.ensures.1
    (stages-know c.found_pauses_law.ensures.known_in_khmer plan font c.args.singles.now (applied_always ∷ [])
    c.stage.result c.stage-2.result c.stage-3.result (λ lookup b. record { too_long = false; memory = false })
    (as_planned plan.script LeftToRight c.setup_masks.new.buffer) stop.0 x (ap pause c.stage.ensures)
    (ap pause c.stage-2.ensures) (ap pause c.stage-3.ensures) stop.1.0)
