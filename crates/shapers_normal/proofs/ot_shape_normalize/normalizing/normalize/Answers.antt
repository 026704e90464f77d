-- A word whose numbers are all that it gets, and a text that is done after the first round.
use Rattle.std.proofs.Common.{◌≡◌, ◌==◌, ◌∙◌, false, ap, subst, sym, arith}
use Rattle.std.specs.List.{list_any}
use Rattle.shapers_buffer.specs.Buffer.{Buffer}
use Rattle.shapers_buffer.specs.Glyphs.{Glyph}
use Rattle.shapers_normal.specs.Decomposition.{first_round}
use Rattle.shapers_normal.specs.Normalization.{has_rounds, normalized}
use Rattle.shapers_normal.specs.Properties.{grapheme_joiner}
use Rattle.shapers_normal.proofs.WholeTexts.{first_round_alone, whole_length, whole_texts_stay}
use Rattle.shapers_normal.proofs.ot_shape_normalize.normalizing.normalize.Goals as goal

pub returns-then-not-has_joiner-clause-ok : goal.returns-then-not-has_joiner-clause-ok
returns-then-not-has_joiner-clause-ok g c =
    let context = g.C.NormalizeContext.context c.args.context.now in
    let old = c.number_word.new.buffer in
    let text = first_round context old.level old.glyphs in
    let done = c.in_ok-decompose.ensures.ok in
    let runs : has_rounds c.args.rounds old.glyphs ≡ false =
    ap (has_rounds c.args.rounds) (sym c.glyphs.ensures) ∙ sym c.has_rounds-runs.ensures ∙ c.if-not-runs.true in
    let none : list_any (λ (g : Glyph). g.glyph_id == grapheme_joiner) text ≡ false =
    ap (list_any (λ (g : Glyph). g.glyph_id == grapheme_joiner))
    (sym (c.glyphs-then-not-runs.ensures ∙ ap (λ (b : Buffer). b.glyphs) done))
    ∙ sym c.has_joiner.ensures ∙ c.if-not-has_joiner.true in
    subst
    (λ (b : Buffer). c.decompose.new.buffer ≡ (let r : Buffer = record b {
      glyphs = normalized context c.args.rounds b.level b.glyphs;
    } in r))
    (c.number_word.ensures.others c.if-number_word.false)
    (done ∙ ap (λ gs. let r : Buffer = record old { glyphs = gs } in r)
    (sym (first_round_alone context c.args.rounds old.level old.glyphs runs none)))

-- A word that gets its numbers is done.
pub returns-then-number_word-clause-ok : goal.returns-then-number_word-clause-ok
returns-then-number_word-clause-ok g c =
    let context = g.C.NormalizeContext.context c.args.context.now in
    let old = c.args.buffer.now in
    let word = c.number_word.ensures.word c.if-number_word.true in
    word.numbered
    ∙ ap (λ gs. let r : Buffer = record old { glyphs = gs } in r)
    (sym (whole_texts_stay context c.args.rounds old.level old.glyphs word.whole word.no_joiner))

pub returns-then-number_word-clause-length : goal.returns-then-number_word-clause-length
returns-then-number_word-clause-length g c =
    let context = g.C.NormalizeContext.context c.args.context.now in
    let old = c.args.buffer.now in
    let word = c.number_word.ensures.word c.if-number_word.true in
    search (arith, whole_length context old.level old.glyphs word.whole)
