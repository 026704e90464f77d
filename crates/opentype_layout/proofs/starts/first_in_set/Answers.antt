use Rattle.opentype_layout.proofs.OneGlyph.{others_outside}
use Rattle.opentype_layout.proofs.starts.first_in_set.Goals as goal

pub returns-then-is_of_one_glyph-clause-out : goal.returns-then-is_of_one_glyph-clause-out
returns-then-is_of_one_glyph-clause-out c =
    others_outside _ _ _ _ _ _ (c.is_of_one_glyph.ensures c.if-is_of_one_glyph.true) c.u16_at.ensures
    c.first_of_number.ensures.others
