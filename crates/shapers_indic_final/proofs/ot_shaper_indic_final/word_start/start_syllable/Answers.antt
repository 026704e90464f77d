-- By whether a left matra opens it, and a word goes on.
use Rattle.std.proofs.Common.{arith}
use Rattle.std.proofs.Common.{get_or, sym, ap, ◌∙◌}
use Rattle.std.proofs.lemmas.Grind.{common_steps}
use Rattle.shapers_buffer.specs.Glyph.{default_glyph}
use Rattle.shapers_buffer.specs.GlyphFlags.{with_bits}
use Rattle.shapers_indic_final.specs.FinalMatras.{is_left}
use Rattle.shapers_indic_final.specs.FinalWordStart.{before_place, word_goes_on}
use Rattle.shapers_indic_final.proofs.FinalWordStartCases.{opened_bound, opened_init, opened_other}
use Rattle.shapers_indic_final.proofs.ot_shaper_indic_final.word_start.start_syllable.Goals as goal

pub returns-then-not-is_left : goal.returns-then-not-is_left
returns-then-not-is_left = search (arith, opened_other)

pub returns-then-word_continues : goal.returns-then-word_continues
returns-then-word_continues = search (arith, opened_bound)

pub returns : goal.returns
returns c =
    let s = c.args.place in
    let left = sym (c.is_left.ensures ∙ ap (λ xs. is_left (get_or xs s default_glyph)) c.glyphs.ensures)
    ∙ c.if-not-is_left.false in
    let word =
    sym (c.word_continues.ensures ∙ ap (λ xs. word_goes_on (before_place s xs)) c.glyphs-2.ensures) ∙ c.if-word_continues.false in
    let masked = c.change_each_by.ensures (with_bits c.args.init) (λ p q e. grind (arith, common_steps, e)) in
    cc (masked, opened_init c.args.init s default_glyph c.args.buffer.now.glyphs c.requires left word)
