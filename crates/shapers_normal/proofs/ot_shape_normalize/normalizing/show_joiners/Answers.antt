-- The start, one more place, and the end.
use Rattle.std.proofs.Common.{◌∙◌, ◌-◌, ap, get_or, set, sym, arith}
use Rattle.shapers_buffer.specs.Glyph.{default_glyph}
use Rattle.shapers_normal.specs.Normalization.{passes_over}
use Rattle.shapers_normal.specs.Sorting.{class_of}
use Rattle.shapers_normal.proofs.Joiners.{showing_start, showing_next, showing_end}
use Rattle.shapers_normal.proofs.WholeTexts.{none_is_shown}
use Rattle.shapers_normal.proofs.ot_shape_normalize.normalizing.show_joiners.Goals as goal

pub loop-i-init : goal.loop-i-init
loop-i-init c = showing_start c.args.glyphs.now

pub loop-i-preserved : goal.loop-i-preserved
loop-i-preserved c =
    let l = c.loop-i in
    let here = get_or l.glyphs l.i default_glyph in
    showing_next c.args.glyphs.now l.glyphs (set l.glyphs l.i c.pass_over.result) l.i l.invariant
    (omega (arith, c.max-i-end.ensures))
    (ap (set l.glyphs l.i)
    (c.pass_over.ensures
    ∙ ap (λ before. passes_over before c.class-behind.result here) c.class-before.ensures
    ∙ ap (λ behind. passes_over (class_of (get_or l.glyphs (l.i - 1) default_glyph)) behind here)
    c.class-behind.ensures))

pub returns-then-not-has_joiner : goal.returns-then-not-has_joiner
returns-then-not-has_joiner c = sym (none_is_shown c.args.glyphs.now (sym c.has_joiner.ensures ∙ c.if-not-has_joiner.true))

pub returns : goal.returns
returns c = showing_end c.args.glyphs.now c.loop-i.glyphs c.loop-i.i c.loop-i.invariant (omega arith)
