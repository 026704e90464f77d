use Rattle.std.proofs.Common.{sym}
use Rattle.opentype_layout.proofs.OneGlyph.{one_glyph}
use Rattle.opentype_layout.proofs.sets.has_glyph.Goals as goal

pub returns-then-is_of_one_glyph : goal.returns-then-is_of_one_glyph
returns-then-is_of_one_glyph c =
    let (format, count) = c.is_of_one_glyph.ensures c.if-is_of_one_glyph.true in
    rw (c.u16_at.ensures) (sym (one_glyph c.args.set.now c.args.glyph format count))
