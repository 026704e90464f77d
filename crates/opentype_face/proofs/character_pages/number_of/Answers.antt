use Rattle.opentype_face.proofs.PageTables.{glyph_is_told}
use Rattle.opentype_face.proofs.character_pages.number_of.Goals as goal

pub returns : goal.returns
returns c = rw c.unwrap_or.ensures (glyph_is_told c.args.characters.now.encoding c.args.characters.now.subtable.now
    c.args.c _ c.get_nominal_glyph.ensures)
