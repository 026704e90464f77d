-- The text behind `end` is counted, and each of its glyphs adds few cells.
use Rattle.std.proofs.Common.{◌+◌, ◌*◌, ◌≤◌, length}
use Rattle.std.specs.List.{zip}
use Rattle.shapers_stretch.specs.CountingWalk.{IsCounted}
use Rattle.shapers_stretch.specs.Stretch.{Laying}
use Rattle.shapers_stretch.proofs.ot_shaper_arabic_stretch.counting.count_added.Given as goal

abbrev pub invariant-loop-end : goal.invariant-loop-end
invariant-loop-end g l =
    let how : Laying =
    record { font = g.F.hb_font_t.font l.font; choice = l.choice; right_to_left = l.right_to_left } in
    record {
      within : l.end ≤ length l.glyphs;
      counted : IsCounted how (zip l.glyphs l.positions) l.end l.added;
      few : l.added + 2147483648 * l.end ≤ 2147483648 * length l.glyphs;
    }

abbrev pub decreases-loop-end : goal.decreases-loop-end
decreases-loop-end g l = l.end
