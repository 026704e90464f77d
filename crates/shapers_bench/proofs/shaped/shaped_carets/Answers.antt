use Rattle.std.proofs.Common.{ap, false, length, refl, subst, sym}
use Rattle.shapers_buffer.specs.Buffer.{Buffer}
use Rattle.shapers_buffer.specs.Properties.{no_marks}
use Rattle.shapers_pipeline.specs.Planned.{text_to_shape}
use Rattle.shapers_pipeline.specs.Shaped.{positioning_by}
use Rattle.shapers_pipeline.specs.Singles.{singles_applied}
use Rattle.shapers_pipeline.specs.Substituted.{preparation_by, substitution_by}
use Rattle.shapers_editing.specs.ShapedCarets.{StopsAreBorders}
use Rattle.shapers_bench.specs.Words.{letters_from}
use Rattle.shapers_bench.proofs.ShapedWords.{keeping, word-stops}
use Rattle.shapers_bench.proofs.shaped.shaped_carets.Goals as goal

pub returns-clause-borders : goal.returns-clause-borders
returns-clause-borders g c =
    let run = c.in_ok-shape.ensures.ok in
    let word = c.args.word.now in
    let new = c.shape.new.buffer in
    let before = c.in_ok-buffer.buffer in
    let plan = c.args.plan.now in
    let settings = c.args.settings.now in
    let font = g.F.hb_font_t.font c.args.font.now in
    let singles = c.args.singles.now in
    let p = preparation_by plan settings.normalize font (g.F.NormalizeFont.variants c.args.font.now)
    (g.T.UnicodeProperties.properties c.args.tables.now) (g.T.Tables.tables c.args.tables.now)
    (g.T.NormalizeTables.texts c.args.tables.now) in
    let r = substitution_by plan font (singles_applied singles) in
    let q = positioning_by plan settings font (g.F.MetricsFont.metrics c.args.font.now) (λ h. false)
    (λ lookup b. b) (λ b. b) in
    subst (λ (b : Buffer). StopsAreBorders (length word) (letters_from 0 word) b.glyphs new.direction) (sym run.1.1)
    (word-stops c.pipeline_carets_law.ensures p (λ h. no_marks) r plan.stages q before.direction new.direction
    (text_to_shape plan before) run.0 word (keeping singles)
    (record {
      looking_up = λ lookup b paired. record { others = refl; glyphs = refl; positions = refl };
      finishing = λ b paired. record { others = refl; glyphs = refl; positions = refl };
    })
    c.in_ok-buffer.ensures.unplaced (ap (λ (b : Buffer). b.glyphs) c.in_ok-buffer.ensures.word) run.1.0)
