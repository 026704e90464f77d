use Rattle.opentype_face.proofs.PageTables.{AreFilled}
use Rattle.opentype_face.proofs.character_pages.fill.Given as goal

abbrev pub invariant-loop-page : goal.invariant-loop-page
invariant-loop-page l = AreFilled l.characters.encoding l.characters.subtable.now l.pages.items l.glyphs.items l.made l.page
