-- The pen before the tiles that are left: their offsets from it on fit exactly if all do.
use Rattle.std.proofs.Common.{◌≡◌, ◌≤◌, length, take}
use Rattle.shapers_stretch.specs.CountingWalk.{IsNumber, offsets_fit, sequence_moves}
use Rattle.shapers_stretch.proofs.ot_shaper_arabic_stretch.counting.offsets_fit.Given as goal

abbrev pub invariant-loop-left : goal.invariant-loop-left
invariant-loop-left g l =
    let font = g.F.hb_font_t.font l.font in
    record {
      within : l.left ≤ length l.tiles;
      pen : IsNumber l.pen;
      same : offsets_fit l.right_to_left l.pen (sequence_moves font l.lay (take l.left l.tiles))
          ≡ offsets_fit l.right_to_left l.lay.start (sequence_moves font l.lay l.tiles);
    }

abbrev pub decreases-loop-left : goal.decreases-loop-left
decreases-loop-left g l = l.left
