-- The text is substituted as its plan has it, and then has its own script and direction again, or is given back.
use Rattle.std.proofs.Common.{◌∙◌, ◌⊎◌, ◌≤◌, ap, inr, length, subst, sym}
use Rattle.shapers_buffer.specs.Buffer.{Buffer}
use Rattle.shapers_pipeline.specs.Lengths.{shaped_bound}
use Rattle.shapers_pipeline.specs.Lookups.{text_noted}
use Rattle.shapers_pipeline.specs.Planned.{as_planned, put_back}
use Rattle.shapers_pipeline.specs.Prepared.{text_prepared}
use Rattle.shapers_pipeline.specs.Refusals.{IsStopped}
use Rattle.shapers_pipeline.specs.Stages.{StagesRun, StagesStopped}
use Rattle.shapers_pipeline.specs.Substituted.{preparation_by, substitution_by}
use Rattle.shapers_pipeline.proofs.substitution.substitute_text.Goals as goal

pub returns-in-Ok-clause-ok : goal.returns-in-Ok-clause-ok
returns-in-Ok-clause-ok g c =
    let it = c.args.lookups.now in
    let plan = c.args.plan.now in
    let font = g.F.hb_font_t.font c.args.font.now in
    let p = preparation_by plan c.args.settings.now font (g.F.NormalizeFont.variants c.args.font.now)
    (g.T.UnicodeProperties.properties c.args.tables.now) (g.T.Tables.tables c.args.tables.now) (g.T.NormalizeTables.texts c.args.tables.now) in
    let r = substitution_by plan font (g.L.Lookups.substituted it) in
    let noted = text_noted (g.L.Lookups.noted it) in
    let last = c.substitute.new.buffer in (
      last,
      (
        subst (λ b. StagesRun r plan.stages (noted (text_prepared p b)) last) (c.set_to_plan.ensures ∙ ap (as_planned plan.plan.script plan.direction) c.keep.ensures.same) c.in-Ok.ensures.ok,
        c.recycle.ensures ∙ c.put_back.ensures ∙ ap (λ (k : Buffer). put_back k last) c.in_ok-kept.ensures.ok,
      ),
    )

pub returns-in-Ok-clause-positions : goal.returns-in-Ok-clause-positions
returns-in-Ok-clause-positions g c =
    ap (λ (b : Buffer). b.positions) (c.recycle.ensures ∙ c.put_back.ensures) ∙ c.in-Ok.ensures.positions

pub returns-in-Err-clause-refusal : goal.returns-in-Err-clause-refusal
returns-in-Err-clause-refusal g c =
    let it = c.args.lookups.now in
    let plan = c.args.plan.now in
    let font = g.F.hb_font_t.font c.args.font.now in
    let p = preparation_by plan c.args.settings.now font (g.F.NormalizeFont.variants c.args.font.now)
    (g.T.UnicodeProperties.properties c.args.tables.now) (g.T.Tables.tables c.args.tables.now) (g.T.NormalizeTables.texts c.args.tables.now) in
    let r = substitution_by plan font (g.L.Lookups.substituted it) in
    let noted = text_noted (g.L.Lookups.noted it) in
    let left = c.substitute.new.buffer in
    let refusals = g.L.Lookups.substituting_refuses it in
    let e = c.in-Err.error in
    inr (
      left,
      subst (λ b. IsStopped p b left e ⊎ StagesStopped r refusals plan.stages (noted (text_prepared p b)) left e)
          (c.set_to_plan.ensures ∙ ap (as_planned plan.plan.script plan.direction) c.keep.ensures.same) c.in-Err.ensures.err,
    )

pub returns-in-Err-clause-room : goal.returns-in-Err-clause-room
returns-in-Err-clause-room g c grows room fits =
    let it = c.args.lookups.now in
    let plan = c.args.plan.now in
    let enough = subst (λ (b : Buffer). shaped_bound plan.shaper (g.L.Lookups.growth_of it) plan.lookups plan.stages
    (length b.glyphs) ≤ b.max_len) (sym (c.set_to_plan.ensures ∙ ap (as_planned plan.plan.script plan.direction) c.keep.ensures.same)) fits in
    c.in-Err.ensures.room grows room enough
