use Rattle.opentype_face.proofs.Lenders.{IsMeasured}
use Rattle.opentype_face.proofs.origins.measured_glyph.Given as goal

abbrev pub invariant-loop-i : goal.invariant-loop-i
invariant-loop-i l = IsMeasured l.head l.loca l.glyf 64 l.fn.glyph l._i l.glyph
