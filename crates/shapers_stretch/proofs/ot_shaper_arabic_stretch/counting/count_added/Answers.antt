use Rattle.shapers_stretch.proofs.Zips.{zip-take}
use Rattle.std.proofs.Common.{◌+◌, arith, length-take-le}
use Rattle.std.specs.List.{zip}
use Rattle.shapers_stretch.specs.CountingWalk.{IsCounted}
use Rattle.shapers_stretch.specs.Stretch.{Laying}
use Rattle.shapers_stretch.proofs.PartCounts.{counted_start, counted_more}
use Rattle.shapers_stretch.proofs.ot_shaper_arabic_stretch.counting.count_added.Goals as goal

pub loop-end-init : goal.loop-end-init
loop-end-init = search (arith, counted_start)

pub returns-in_err-last : goal.returns-in_err-last
returns-in_err-last g c =
    let how : Laying = record {
      font = g.F.hb_font_t.font c.args.font.now;
      choice = c.args.choice;
      right_to_left =
          c.args.right_to_left;
    } in
    search (arith, zip-take)

pub loop-end-preserved : goal.loop-end-preserved
loop-end-preserved g c =
    let how : Laying =
    record {
      font = g.F.hb_font_t.font c.args.font.now;
      choice = c.args.choice;
      right_to_left =
          c.args.right_to_left;
    } in
    let gs = c.args.glyphs.now in
    let ps = c.args.positions.now in
    let last = c.in_ok-last.last in
    let counted : IsCounted how (zip gs ps) last.start (c.loop-end.added + last.added) =
    counted_more how gs ps c.loop-end.end c.loop-end.added last.start last.added c.loop-end.invariant.counted
    c.in_ok-last.ensures.0 in
    let upto = length-take-le c.loop-end.end gs c.loop-end.invariant.within in
    search arith
