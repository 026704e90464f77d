-- The glyphs up to here have these numbers.
use Rattle.std.proofs.Common.{◌≡◌, length, take}
use Rattle.shapers_normal.specs.NumberedWords.{AreNumbers}
use Rattle.shapers_normal.proofs.ot_shape_normalize.numbering.numbers_of.Given as goal

abbrev pub invariant-loop-glyph : goal.invariant-loop-glyph
invariant-loop-glyph g l = record {
  numbers : AreNumbers (g.C.NormalizeContext.context l.context) l.numbers.items (take l.glyph-index l.glyphs);
  as_many : length l.numbers.items ≡ l.glyph-index;
}
