-- The text is prepared in the plan's script and direction, and then has its own again.
use Rattle.std.proofs.Common.{◌∙◌, ap, refl, subst}
use Rattle.std.proofs.lemmas.Result.{on_ok_weaker}
use Rattle.shapers_buffer.specs.Buffer.{Buffer}
use Rattle.shapers_pipeline.specs.Prepared.{preparation, text_prepared}
use Rattle.shapers_pipeline.specs.Refusals.{IsPrepared, IsStopped}
use Rattle.shapers_pipeline.proofs.PutBack.{if_err_weaker, is_put_back}
use Rattle.shapers_pipeline.proofs.prepare.prepare_text.Goals as goal

pub returns-clause-ok : goal.returns-clause-ok
returns-clause-ok g c =
    let p = preparation c.args.plan.now c.args.settings.now (g.F.hb_font_t.font c.args.font.now) (g.F.NormalizeFont.variants c.args.font.now) (g.T.UnicodeProperties.properties c.args.tables.now) (g.T.Tables.tables c.args.tables.now) (g.T.NormalizeTables.texts c.args.tables.now) in
    let call = c.prepare-prepared in
    on_ok_weaker call.result (λ made. is_put_back c.args.buffer.now call.new.buffer _ _ c.script-script.ensures
    c.direction-direction.ensures c.set_script_and_direction-2.ensures (made ∙ ap (text_prepared p) c.set_script_and_direction.ensures)) call.ensures.ok

pub returns-clause-met : goal.returns-clause-met
returns-clause-met g c =
    let p = preparation c.args.plan.now c.args.settings.now (g.F.hb_font_t.font c.args.font.now) (g.F.NormalizeFont.variants c.args.font.now) (g.T.UnicodeProperties.properties c.args.tables.now) (g.T.Tables.tables c.args.tables.now) (g.T.NormalizeTables.texts c.args.tables.now) in
    let call = c.prepare-prepared in
    on_ok_weaker call.result (subst (IsPrepared p) c.set_script_and_direction.ensures) call.ensures.met

pub returns-clause-err : goal.returns-clause-err
returns-clause-err g c =
    let p = preparation c.args.plan.now c.args.settings.now (g.F.hb_font_t.font c.args.font.now) (g.F.NormalizeFont.variants c.args.font.now) (g.T.UnicodeProperties.properties c.args.tables.now) (g.T.Tables.tables c.args.tables.now) (g.T.NormalizeTables.texts c.args.tables.now) in
    let call = c.prepare-prepared in
    let left = call.new.buffer in
    if_err_weaker call.result (λ e stopped. (
      left,
      (
        subst (λ b. IsStopped p b left e) c.set_script_and_direction.ensures stopped,
        is_put_back c.args.buffer.now left left _ c.script-script.ensures c.direction-direction.ensures
            c.set_script_and_direction-2.ensures refl,
      ),
    )) call.ensures.err

pub returns-clause-positions : goal.returns-clause-positions
returns-clause-positions g c =
    let call = c.prepare-prepared in
    on_ok_weaker call.result (λ none. ap (λ (b : Buffer). b.positions) c.set_script_and_direction-2.ensures ∙ none) call.ensures.positions
