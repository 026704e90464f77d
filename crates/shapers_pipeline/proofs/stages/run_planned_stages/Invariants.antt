-- The stages that are left run on from the text that those so far made.
use Rattle.std.proofs.Common.{◌≡◌, ◌≤◌, [], drop, length}
use Rattle.shapers_buffer.specs.Buffer.{Buffer}
use Rattle.rustybuzz_shapers.specs.declared.shaper.checked.CallError.{CallError}
use Rattle.shapers_pipeline.specs.Lengths.{stages_bound}
use Rattle.shapers_pipeline.specs.Stages.{StagesRun, StagesStopped, Substitution}
use Rattle.shapers_pipeline.proofs.stages.run_planned_stages.Given as goal

abbrev pub invariant-loop-stage : goal.invariant-loop-stage
invariant-loop-stage g l =
    let r : Substitution = record {
      plan = l.plan.plan.now;
      font = g.F.hb_font_t.font l.font;
      substituted = g.L.Lookups.substituted l.lookups;
      list = l.plan.lookups.now;
    } in
    let stages = l.plan.stages.now in
    let rest = drop l.stage-index stages in
    let growth = g.L.Lookups.growth_of l.lookups in
    let refusals = g.L.Lookups.substituting_refuses l.lookups in
    record {
      positions : l.buffer.positions ≡ [];
      limit : l.buffer.max_len ≡ l.initial.buffer.max_len;
      few : stages_bound growth r.list rest (length l.buffer.glyphs)
          ≤ stages_bound growth r.list stages (length l.initial.buffer.glyphs);
      run : (new : Buffer) → StagesRun r rest l.buffer new → StagesRun r stages l.initial.buffer new;
      stopped : (new : Buffer) (e : CallError) → StagesStopped r refusals rest l.buffer new e
          → StagesStopped r refusals stages l.initial.buffer new e;
    }
