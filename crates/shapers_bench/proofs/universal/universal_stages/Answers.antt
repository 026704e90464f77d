use Rattle.std.proofs.Common.{◌≢◌, ℕ, false}
use Rattle.shapers_buffer.specs.declared.buffer.level.Direction.TheVariants.{LeftToRight}
use Rattle.shapers_buffer.specs.declared.buffer.refusal.ShaperError.TheVariants.{UnknownSyllable}
use Rattle.shapers_buffer.specs.Buffer.{Buffer}
use Rattle.shapers_buffer.specs.Glyph.{clusters}
use Rattle.shapers_clusters.specs.Cuts.{IsMonotone}
use Rattle.std.proofs.Common.{subst, sym}
use Rattle.rustybuzz_shapers.specs.declared.shaper.checked.CallError.TheVariants as call
use Rattle.shapers_pipeline.specs.Planned.{as_planned}
use Rattle.shapers_bench.proofs.KhmerStages.{told-on}
use Rattle.shapers_bench.proofs.UniversalWords.{universal-known, universal-sorted}
use Rattle.shapers_bench.proofs.universal.universal_stages.Goals as goal

pub returns-clause-sorted : goal.returns-clause-sorted
returns-clause-sorted g c =
    let run = c.in_ok-run_stages.ensures.ok in
    let plan = c.with_data-plan.result in
    subst (λ (b : Buffer). IsMonotone (clusters b.glyphs)) (sym run.1.1)
    (universal-sorted c.found_universal_law.ensures.sorts c.pipeline_clusters_law.ensures.stages _ plan
    (g.F.hb_font_t.font c.args.font.now) c.args.singles.now _ c.args.word.now (g.T.Tables.tables c.args.tables.now)
    plan.script LeftToRight c.in_ok-buffer.buffer c.setup_masks.new.buffer run.0 c.in_ok-javanese_plan.ensures.plan
    c.with_data-plan.ensures.data c.in_ok-buffer.ensures.word c.setup_masks.ensures.masks run.1.0)

pub returns-in_err-run_stages-clause-known : goal.returns-in_err-run_stages-clause-known
returns-in_err-run_stages-clause-known g c =
    let plan = c.with_data-plan.result in
    let x = c.in_err-run_stages.field-0.0 in
    let stop = c.in_err-run_stages.ensures.err in
    told-on c.from_residual-in_err-run_stages.result x
    (λ e. (place : ℕ) → e ≢ call.Refused (UnknownSyllable place)) c.from_residual-in_err-run_stages.ensures.1
    (universal-known c.found_indic_law.ensures.others plan (g.F.hb_font_t.font c.args.font.now) c.args.singles.now
    (λ lookup b. record { too_long = false; memory = false })
    (as_planned plan.script LeftToRight c.setup_masks.new.buffer) stop.0 x stop.1.0)
