use Rattle.std.proofs.Common.{subst, sym}
use Rattle.shapers_buffer.specs.Buffer.{Buffer}
use Rattle.shapers_editing.specs.PipelineBreaks.{StepLeavesPieces}
use Rattle.shapers_buffer.specs.declared.buffer.level.Direction.TheVariants.{LeftToRight}
use Rattle.shapers_pipeline.specs.Planned.{as_planned}
use Rattle.shapers_bench.specs.Substituted.{SubstitutedBy}
use Rattle.shapers_bench.proofs.BrokenWords.{word_breaks}
use Rattle.shapers_bench.proofs.breaks.substituted_word.Goals as goal

pub returns : goal.returns
returns g c =
    let singles = c.args.singles.now in
    let by = SubstitutedBy singles in
    let law = c.pipeline_breaks_law.ensures in
    let run = c.in_ok-run_stages.ensures.ok in
    let old = c.in_ok-buffer.buffer in
    let plan = c.plain_plan-plan.result in
    let font = g.F.hb_font_t.font c.args.font.now in
    record {
      breaks = λ numbered text.
          subst (λ (b : Buffer). StepLeavesPieces numbered text by b c.run_stages.new.buffer) c.in_ok-buffer.ensures.word
          (subst (λ (b : Buffer). StepLeavesPieces numbered text by old b) (sym run.1.1)
          (word_breaks law.stages law.singles numbered text plan font singles
          (as_planned plan.script LeftToRight old) run.0 run.1.0));
    }
