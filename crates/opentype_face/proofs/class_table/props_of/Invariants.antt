use Rattle.opentype_face.proofs.ClassesFilled.{AreClasses}
use Rattle.opentype_face.proofs.class_table.props_of.Given as goal

abbrev pub invariant-loop-glyph : goal.invariant-loop-glyph
invariant-loop-glyph l = AreClasses l.gdef l.props.items l.glyph
