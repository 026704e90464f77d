use Rattle.opentype_face.specs.CharacterTables.{AreAppended}
use Rattle.opentype_face.proofs.character_pages.append_page.Given as goal

abbrev pub invariant-loop-k : goal.invariant-loop-k
invariant-loop-k l = AreAppended l.characters.encoding l.characters.subtable.now l.fn.glyphs.items l.first l.k l.glyphs.items
