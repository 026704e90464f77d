use Rattle.opentype_face.proofs.GlyphTablesFilled.{HasPlaces}
use Rattle.opentype_face.proofs.glyph_tables.places_of.Given as goal

abbrev pub invariant-loop-i : goal.invariant-loop-i
invariant-loop-i l = HasPlaces l.set l.glyphs.first l.places.items l.i
