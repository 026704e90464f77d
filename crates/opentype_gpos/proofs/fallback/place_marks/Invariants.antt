use Rattle.std.proofs.Common.{◌+◌}
use Rattle.opentype_gpos.specs.Fallback.{mark_font}
use Rattle.opentype_gpos.proofs.Marks.{IsMarking}
use Rattle.opentype_gpos.proofs.fallback.place_marks.Given as goal

abbrev pub invariant-loop-i : goal.invariant-loop-i
invariant-loop-i g l = IsMarking (mark_font (g.M.MarkMetrics.box_of l.font) (g.M.MarkMetrics.advance_of l.font) l.settings)
    l.glyphs l.base.glyph.now l.base.whole (l.base.at + 1) l.end l.fn.around l.fn.positions l.i l.around l.positions
