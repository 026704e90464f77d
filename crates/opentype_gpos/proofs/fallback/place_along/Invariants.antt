use Rattle.std.proofs.Common.{length}
use Rattle.opentype_gpos.specs.Fallback.{mark_font, marks_stepped}
use Rattle.opentype_gpos.proofs.Walks.{IsWalked}
use Rattle.opentype_gpos.proofs.fallback.place_along.Given as goal

abbrev pub invariant-loop : goal.invariant-loop
invariant-loop g l =
    IsWalked (marks_stepped (mark_font (g.M.MarkMetrics.box_of l.font) (g.M.MarkMetrics.advance_of l.font) l.settings))
    (length l.fn.glyphs) l.fn.glyphs l.fn.positions l.counter l.glyphs l.positions l.at
