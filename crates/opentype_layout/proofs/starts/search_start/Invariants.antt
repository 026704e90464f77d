use Rattle.opentype_layout.specs.Starts.{NoneStarts}
use Rattle.opentype_layout.proofs.starts.search_start.Given as goal

abbrev pub invariant-loop-i : goal.invariant-loop-i
invariant-loop-i l = NoneStarts l.of_gpos l.lookup l.glyph l.from l.i
