use Rattle.std.proofs.Common.{◌≡◌, ◌∙◌, Some, None, true, false, refl, rules, subst, sym}
use Rattle.rustybuzz_shapers.specs.declared.shaper.hb_ot_shaper_t.TheVariants.{Hangul}
use Rattle.shapers_bench.specs.NormalWords.{IsItsParts, are_drawn_syllables}
use Rattle.shapers_bench.proofs.NormalWords.{in-parts, normal-word, word-stays}
use Rattle.shapers_pipeline.specs.ByShaper.{shaper_context}
use Rattle.shapers_bench.proofs.normal.normalized_hangul.Goals as goal

pub returns-clause-parts : goal.returns-clause-parts
returns-clause-parts g c plan =
    let font = g.F.hb_font_t.font c.args.font.now in
    let variants = g.F.NormalizeFont.variants c.args.font.now in
    let tables = g.T.Tables.tables c.args.tables.now in
    let texts = g.T.NormalizeTables.texts c.args.tables.now in
    let word = c.args.word.now in
    let drawn : are_drawn_syllables font word ≡ true = search rules in
    let context = shaper_context (Some Hangul) plan font variants tables texts None false in
    let new = c.ot_shape_normalize.new.buffer in
    let same = normal-word context _ word c.in_ok-buffer.buffer new c.in_ok-buffer.ensures.word
    c.in_ok-ot_shape_normalize.ensures.ok in
    subst (IsItsParts context new.level word) (sym same)
    (in-parts c.normalization_edits_law.ensures context
    (c.orders_alone_law.ensures (Some Hangul) plan font variants tables texts None false) refl new.level word drawn)

pub returns-clause-stays : goal.returns-clause-stays
returns-clause-stays g c plan =
    let font = g.F.hb_font_t.font c.args.font.now in
    let variants = g.F.NormalizeFont.variants c.args.font.now in
    let tables = g.T.Tables.tables c.args.tables.now in
    let texts = g.T.NormalizeTables.texts c.args.tables.now in
    let word = c.args.word.now in
    let drawn : are_drawn_syllables font word ≡ true = search rules in
    let context = shaper_context (Some Hangul) plan font variants tables texts None false in
    let new = c.ot_shape_normalize.new.buffer in
    normal-word context _ word c.in_ok-buffer.buffer new c.in_ok-buffer.ensures.word
    c.in_ok-ot_shape_normalize.ensures.ok
    ∙ word-stays c.staying_law.ensures context (λ level s e gs some within. refl) refl refl new.level word drawn
