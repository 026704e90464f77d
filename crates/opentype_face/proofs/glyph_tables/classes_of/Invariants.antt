use Rattle.opentype_face.proofs.GlyphTablesFilled.{HasClasses}
use Rattle.opentype_face.proofs.glyph_tables.classes_of.Given as goal

abbrev pub invariant-loop-i : goal.invariant-loop-i
invariant-loop-i l = HasClasses l.bytes l.glyphs.first l.classes.items l.i
