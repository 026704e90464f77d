-- The text is shaped as its plan has it, and then has its own settings again, or is given back.
use Rattle.std.proofs.Common.{◌∙◌, ◌⊎◌, ◌≤◌, ap, arith, inr, length, subst, sym}
use Rattle.shapers_buffer.specs.Buffer.{Buffer}
use Rattle.shapers_pipeline.specs.Lengths.{shaped_bound}
use Rattle.shapers_pipeline.specs.Lookups.{text_noted}
use Rattle.shapers_pipeline.specs.Planned.{given_back, text_to_shape}
use Rattle.shapers_pipeline.specs.Prepared.{text_prepared}
use Rattle.shapers_pipeline.specs.Refusals.{IsStopped}
use Rattle.shapers_pipeline.specs.Shaped.{FinishStopped, positioning_by}
use Rattle.shapers_pipeline.specs.Stages.{StagesRun, StagesStopped}
use Rattle.shapers_pipeline.specs.Substituted.{preparation_by, substitution_by}
use Rattle.shapers_pipeline.proofs.shaping.shape.Goals as goal

pub give_back-requires : goal.give_back-requires
give_back-requires g c =
    omega (
      arith,
      c.in-Ok.ensures.limit,
      c.set_to_shape.ensures.within,
      ap (λ (b : Buffer). b.max_len) c.keep.ensures.same,
      ap (λ (b : Buffer). b.max_len) c.in_ok-kept.ensures.ok,
    )

pub returns-in-Ok-clause-ok : goal.returns-in-Ok-clause-ok
returns-in-Ok-clause-ok g c =
    let it = c.args.lookups.now in
    let plan = c.args.plan.now in
    let font = g.F.hb_font_t.font c.args.font.now in
    let p = preparation_by plan c.args.settings.now.normalize font (g.F.NormalizeFont.variants c.args.font.now)
    (g.T.UnicodeProperties.properties c.args.tables.now) (g.T.Tables.tables c.args.tables.now) (g.T.NormalizeTables.texts c.args.tables.now) in
    let r = substitution_by plan font (g.L.Lookups.substituted it) in
    let noted = text_noted (g.L.Lookups.noted it) in
    let old = c.args.buffer.now in
    let ran = c.in-Ok.ensures.ok in (
      ran.0,
      (
        subst (λ b. StagesRun r plan.stages (noted (text_prepared p b)) ran.0) (c.set_to_shape.ensures.text ∙ ap (text_to_shape plan) c.keep.ensures.same) ran.1.0,
        c.recycle.ensures
            ∙ c.give_back.ensures
            ∙ ap (λ (k : Buffer). given_back k c.shape.new.buffer) c.in_ok-kept.ensures.ok
            ∙ ap (given_back old) ran.1.1,
      ),
    )

pub returns-in-Err-clause-refusal : goal.returns-in-Err-clause-refusal
returns-in-Err-clause-refusal g c =
    let it = c.args.lookups.now in
    let plan = c.args.plan.now in
    let font = g.F.hb_font_t.font c.args.font.now in
    let p = preparation_by plan c.args.settings.now.normalize font (g.F.NormalizeFont.variants c.args.font.now)
    (g.T.UnicodeProperties.properties c.args.tables.now) (g.T.Tables.tables c.args.tables.now) (g.T.NormalizeTables.texts c.args.tables.now) in
    let r = substitution_by plan font (g.L.Lookups.substituted it) in
    let q = positioning_by plan c.args.settings.now font (g.F.MetricsFont.metrics c.args.font.now)
    (g.L.GlyphClasses.marks it) (g.L.Lookups.positioned it) (g.L.Lookups.finished it) in
    let noted = text_noted (g.L.Lookups.noted it) in
    let left = c.shape.new.buffer in
    let e = c.in-Err.error in
    let substituting = g.L.Lookups.substituting_refuses it in
    let positioning = g.L.Lookups.positioning_refuses it in
    inr (
      left,
      subst (λ b. IsStopped p b left e
          ⊎ (StagesStopped r substituting plan.stages (noted (text_prepared p b)) left e
          ⊎ ((mid : Buffer) × (StagesRun r plan.stages (noted (text_prepared p b)) mid × FinishStopped q positioning mid left e))))
          (c.set_to_shape.ensures.text ∙ ap (text_to_shape plan) c.keep.ensures.same) c.in-Err.ensures.err,
    )

pub returns-in-Err-clause-room : goal.returns-in-Err-clause-room
returns-in-Err-clause-room g c grows room fits is =
    let it = c.args.lookups.now in
    let plan = c.args.plan.now in
    let font = g.F.hb_font_t.font c.args.font.now in
    let p = preparation_by plan c.args.settings.now.normalize font (g.F.NormalizeFont.variants c.args.font.now)
    (g.T.UnicodeProperties.properties c.args.tables.now) (g.T.Tables.tables c.args.tables.now) (g.T.NormalizeTables.texts c.args.tables.now) in
    let r = substitution_by plan font (g.L.Lookups.substituted it) in
    let noted = text_noted (g.L.Lookups.noted it) in
    let set = c.set_to_shape.ensures.text ∙ ap (text_to_shape plan) c.keep.ensures.same in
    let enough = subst (λ (b : Buffer). shaped_bound plan.shaper (g.L.Lookups.growth_of it) plan.lookups plan.stages
    (length b.glyphs) ≤ b.max_len) (sym set) fits in
    let found = c.in-Err.ensures.room grows room enough is in (
      found.0,
      (
        subst (λ b. StagesRun r plan.stages (noted (text_prepared p b)) found.0) set found.1.0,
        (c.shape.new.buffer, found.1.1),
      ),
    )
