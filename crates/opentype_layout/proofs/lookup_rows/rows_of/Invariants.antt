use Rattle.opentype_layout.specs.LookupRows.{AreUnset}
use Rattle.opentype_layout.proofs.lookup_rows.rows_of.Given as goal

abbrev pub invariant-loop-glyph : goal.invariant-loop-glyph
invariant-loop-glyph l = AreUnset l.words l.bits l.glyphs l.glyph-index
