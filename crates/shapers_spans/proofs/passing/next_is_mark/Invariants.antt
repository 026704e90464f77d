use Rattle.std.proofs.Common.{◌≡◌, drop}
use Rattle.shapers_spans.specs.Passing.{next_is_mark}
use Rattle.shapers_spans.proofs.passing.next_is_mark.Given as goal

abbrev pub invariant-loop-glyph : goal.invariant-loop-glyph
invariant-loop-glyph l = next_is_mark (drop l.glyph-index l.glyphs) ≡ next_is_mark l.glyphs
