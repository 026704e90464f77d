use Rattle.std.specs.Prelude.{◌≤◌, length, min}
use Rattle.opentype_layout.proofs.Passed.{AreLeft}
use Rattle.opentype_layout.proofs.starts.search_place.Given as goal

abbrev pub invariant-loop-i : goal.invariant-loop-i
invariant-loop-i l = (l.end ≤ length l.glyphs) × ((min l.from (length l.glyphs) ≤ l.end)
    × AreLeft l.of_gpos l.lookup l.mask l.glyphs l.from l.end l.i)
