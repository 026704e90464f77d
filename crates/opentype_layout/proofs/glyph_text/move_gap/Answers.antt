use Rattle.std.proofs.Common.{◌+◌, ◌-◌, ◌∙◌, ap, arith, refl}
use Rattle.opentype_layout.specs.Gapped.{gapped}
use Rattle.opentype_layout.proofs.Gaps.{gap_back, gap_on, length-gapped}
use Rattle.opentype_layout.proofs.glyph_text.move_gap.Goals as goal

pub returns-then-at-before-clause-text : goal.returns-then-at-before-clause-text
returns-then-at-before-clause-text c =
    ap (gapped c.args.at (c.args.at + (c.args.behind - c.args.before))) c.copy_within.ensures.after
    ∙ gap_back c.args.glyphs.now c.args.before c.args.behind c.args.at _ (omega arith) c.requires.gap.in_order c.requires.gap.within refl

pub returns-else-at-before-clause-text : goal.returns-else-at-before-clause-text
returns-else-at-before-clause-text c =
    ap (gapped c.args.at (c.args.at + (c.args.behind - c.args.before))) c.copy_within-else-at-before.ensures.after
    ∙ gap_on c.args.glyphs.now c.args.before c.args.behind c.args.at _ (omega arith) c.requires.gap.in_order
    (omega (arith, length-gapped c.args.glyphs.now c.args.before c.args.behind c.requires.gap.in_order c.requires.gap.within)) refl
