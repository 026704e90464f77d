use Rattle.opentype_layout.proofs.Gaps.{set_gapped}
use Rattle.opentype_layout.proofs.glyph_text.set_in.Goals as goal

pub returns-clause-text : goal.returns-clause-text
returns-clause-text c = set_gapped c.args.glyphs.now c.args.before c.args.behind c.args.at c.index.result c.args.glyph
    c.requires.gap.in_order c.requires.gap.within c.index.ensures
