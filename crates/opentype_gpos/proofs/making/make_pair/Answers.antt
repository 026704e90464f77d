use Rattle.opentype_gpos.proofs.Paired.{pair_made}
use Rattle.opentype_gpos.proofs.making.make_pair.Goals as goal

pub returns-then-u16_at-eq0 : goal.returns-then-u16_at-eq0
returns-then-u16_at-eq0 c = pair_made _ c.args.pair.now _ _ _ _ _ c.advance_of.ensures.value c.advance_of.ensures.second
    c.if-pair-glyphs.false c.move_pair.ensures
