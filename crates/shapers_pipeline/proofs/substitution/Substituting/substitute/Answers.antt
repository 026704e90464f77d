use Rattle.std.proofs.Common.{◌≡◌, ◌∙◌, ◌<◌, ◌≤◌, ap, arith, length, refl, subst, sym}
use Rattle.std.proofs.Math.Nat.{le_trans}
use Rattle.std.proofs.lemmas.Result.{on_ok_weaker}
use Rattle.shapers_buffer.specs.Buffer.{Buffer, new_buffer}
use Rattle.shapers_buffer.specs.declared.buffer.refusal.ShaperError.TheVariants.{TooLong}
use Rattle.rustybuzz_shapers.specs.declared.shaper.checked.CallError.TheVariants as call
use Rattle.shapers_plan.specs.declared.ot_map.lookups.StageLookup.{StageLookup}
use Rattle.shapers_pipeline.specs.Lengths.{prepared_bound}
use Rattle.shapers_pipeline.specs.Lookups.{text_noted}
use Rattle.shapers_pipeline.specs.Prepared.{Preparation, text_prepared}
use Rattle.shapers_pipeline.specs.Stages.{Substitution}
use Rattle.shapers_pipeline.specs.Substituted.{preparation_by}
use Rattle.shapers_pipeline.proofs.StageLengths.{passed_on, room_for_stages, stages_least}
use Rattle.shapers_clusters.proofs.EqualArguments.{same_four}
use Rattle.shapers_pipeline.proofs.Substituting.{as_stopped, run_alike, stopped_alike}
use Rattle.shapers_pipeline.proofs.TextLengths.{prepared_limit}
use Rattle.shapers_pipeline.proofs.substitution.Substituting.substitute.Goals as goal

pub returns-clause-ok : goal.returns-clause-ok
returns-clause-ok g c =
    let prepared = c.note_glyphs.ensures ∙ ap (text_noted (g.L.Lookups.noted c.args.self.now.lookups.now)) (c.in_ok-prepare.ensures.ok ∙ same_four (λ shaper plan masks ranges.
    let p : Preparation = record {
      shaper = shaper;
      plan = plan;
      masks = masks;
      ranges = ranges;
      font = g.F.hb_font_t.font c.args.self.now.font.now;
      variants = g.F.NormalizeFont.variants c.args.self.now.font.now;
      properties = g.T.UnicodeProperties.properties c.args.self.now.tables.now;
      tables = g.T.Tables.tables c.args.self.now.tables.now;
      texts = g.T.NormalizeTables.texts c.args.self.now.tables.now;
      settings = c.args.self.now.settings.now;
    } in text_prepared p c.args.buffer.now) c.shaper.ensures c.plan.ensures c.masks.ensures c.ranges-2.ensures) in
    let read = ap (λ plan. let r : Substitution = record {
      plan = plan;
      font = g.F.hb_font_t.font c.args.self.now.font.now;
      substituted = g.L.Lookups.substituted c.args.self.now.lookups.now;
      list = c.lookups.result.now;
    } in r) c.plan-2.ensures
    ∙ ap (λ list. let r : Substitution = record {
      plan = c.args.self.now.plan.now.plan;
      font = g.F.hb_font_t.font c.args.self.now.font.now;
      substituted = g.L.Lookups.substituted c.args.self.now.lookups.now;
      list = list;
    } in r) c.lookups.ensures in
    on_ok_weaker c.run_planned_stages.result (run_alike c.run_planned_stages.new.buffer read c.stages.ensures prepared) c.run_planned_stages.ensures.ok

pub returns-clause-err : goal.returns-clause-err
returns-clause-err g c =
    let prepared = c.note_glyphs.ensures ∙ ap (text_noted (g.L.Lookups.noted c.args.self.now.lookups.now)) (c.in_ok-prepare.ensures.ok ∙ same_four (λ shaper plan masks ranges.
    let p : Preparation = record {
      shaper = shaper;
      plan = plan;
      masks = masks;
      ranges = ranges;
      font = g.F.hb_font_t.font c.args.self.now.font.now;
      variants = g.F.NormalizeFont.variants c.args.self.now.font.now;
      properties = g.T.UnicodeProperties.properties c.args.self.now.tables.now;
      tables = g.T.Tables.tables c.args.self.now.tables.now;
      texts = g.T.NormalizeTables.texts c.args.self.now.tables.now;
      settings = c.args.self.now.settings.now;
    } in text_prepared p c.args.buffer.now) c.shaper.ensures c.plan.ensures c.masks.ensures c.ranges-2.ensures) in
    let read = ap (λ plan. let r : Substitution = record {
      plan = plan;
      font = g.F.hb_font_t.font c.args.self.now.font.now;
      substituted = g.L.Lookups.substituted c.args.self.now.lookups.now;
      list = c.lookups.result.now;
    } in r) c.plan-2.ensures
    ∙ ap (λ list. let r : Substitution = record {
      plan = c.args.self.now.plan.now.plan;
      font = g.F.hb_font_t.font c.args.self.now.font.now;
      substituted = g.L.Lookups.substituted c.args.self.now.lookups.now;
      list = list;
    } in r) c.lookups.ensures in
    as_stopped _ c.run_planned_stages.result (stopped_alike (g.L.Lookups.substituting_refuses c.args.self.now.lookups.now) c.run_planned_stages.new.buffer read c.stages.ensures prepared) c.run_planned_stages.ensures.err

pub returns-clause-room : goal.returns-clause-room
returns-clause-room g c grows room fits =
    let it = c.args.self.now.lookups.now in
    let plan = c.args.self.now.plan.now in
    let old = c.args.buffer.now in
    let p = preparation_by plan c.args.self.now.settings.now (g.F.hb_font_t.font c.args.self.now.font.now)
    (g.F.NormalizeFont.variants c.args.self.now.font.now) (g.T.UnicodeProperties.properties c.args.self.now.tables.now)
    (g.T.Tables.tables c.args.self.now.tables.now) (g.T.NormalizeTables.texts c.args.self.now.tables.now) in
    let noted = g.L.Lookups.noted it in
    let b = c.note_glyphs.new.buffer in
    let is : b ≡ text_noted noted (text_prepared p old) =
    c.note_glyphs.ensures ∙ ap (text_noted noted) (c.in_ok-prepare.ensures.ok ∙ same_four (λ shaper plan masks ranges.
    let q : Preparation = record {
      shaper = shaper;
      plan = plan;
      masks = masks;
      ranges = ranges;
      font = p.font;
      variants = p.variants;
      properties = p.properties;
      tables = p.tables;
      texts = p.texts;
      settings = p.settings;
    } in text_prepared q old) c.shaper.ensures c.plan.ensures c.masks.ensures c.ranges-2.ensures) in
    let few : length b.glyphs ≤ prepared_bound plan.shaper (length old.glyphs) =
    subst (λ (x : Buffer). length x.glyphs ≤ prepared_bound plan.shaper (length old.glyphs)) (sym is)
    (grows p noted old) in
    let limit : b.max_len ≡ old.max_len = ap (λ (x : Buffer). x.max_len) is ∙ prepared_limit p old in
    c.run_planned_stages.ensures.room
    (room_for_stages (g.L.Lookups.growth_of it) plan.shaper plan.lookups c.lookups.result.now plan.stages
    c.stages.result.now (length old.glyphs) (length b.glyphs) old.max_len b.max_len c.lookups.ensures c.stages.ensures
    few limit fits)

pub returns-clause-limit : goal.returns-clause-limit
returns-clause-limit g c =
    let p : Preparation = record {
      shaper = c.shaper.result;
      plan = c.plan.result.now;
      masks = c.masks.result;
      ranges = c.ranges-2.result.now;
      font = g.F.hb_font_t.font c.args.self.now.font.now;
      variants = g.F.NormalizeFont.variants c.args.self.now.font.now;
      properties = g.T.UnicodeProperties.properties c.args.self.now.tables.now;
      tables = g.T.Tables.tables c.args.self.now.tables.now;
      texts = g.T.NormalizeTables.texts c.args.self.now.tables.now;
      settings = c.args.self.now.settings.now;
    } in
    let limit = ap (λ (x : Buffer). x.max_len) c.note_glyphs.ensures
    ∙ ap (λ (x : Buffer). x.max_len) c.in_ok-prepare.ensures.ok ∙ prepared_limit p c.args.buffer.now in
    on_ok_weaker c.run_planned_stages.result (λ kept. kept ∙ limit) c.run_planned_stages.ensures.limit

pub returns-in_err-prepare-clause-room : goal.returns-in_err-prepare-clause-room
returns-in_err-prepare-clause-room g c grows room fits e =
    let it = c.args.self.now.lookups.now in
    let plan = c.args.self.now.plan.now in
    let n = length c.args.buffer.now.glyphs in
    let growth = g.L.Lookups.growth_of it in
    let some : (lookup : StageLookup) → 0 < growth lookup =
    λ x. omega (arith, (g.met.L.Lookups.substituting_grows it x (new_buffer 0) refl).one) in
    let own : prepared_bound c.shaper.result n ≤ c.args.buffer.now.max_len =
    subst (λ s. prepared_bound s n ≤ c.args.buffer.now.max_len) (sym c.shaper.ensures)
    (le_trans (stages_least growth some plan.lookups plan.stages (prepared_bound plan.shaper n)) fits) in
    let x = c.in_err-prepare.field-0.0 in
    let p : Preparation = record {
      shaper = c.shaper.result;
      plan = c.plan.result.now;
      masks = c.masks.result;
      ranges = c.ranges-2.result.now;
      font = g.F.hb_font_t.font c.args.self.now.font.now;
      variants = g.F.NormalizeFont.variants c.args.self.now.font.now;
      properties = g.T.UnicodeProperties.properties c.args.self.now.tables.now;
      tables = g.T.Tables.tables c.args.self.now.tables.now;
      texts = g.T.NormalizeTables.texts c.args.self.now.tables.now;
      settings = c.args.self.now.settings.now;
    } in
    room p c.args.buffer.now c.prepare.new.buffer x own c.in_err-prepare.ensures.err
    (passed_on c.from_residual.result x (call.Refused TooLong) c.from_residual.ensures.1 e)
