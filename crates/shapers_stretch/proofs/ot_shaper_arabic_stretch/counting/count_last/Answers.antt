use Rattle.std.proofs.Common.{◌≡◌, ◌<◌, ◌-◌, ◌==◌, ℕ, Bool, false, length, take, drop, sym, ◌∙◌, arith}
use Rattle.std.specs.List.{zip}
use Rattle.shapers_stretch.specs.CountingWalk.{IsCounted}
use Rattle.shapers_stretch.specs.Stretch.{Laying}
use Rattle.shapers_stretch.proofs.PartCounts.{counted_plain, counted_run, last_part_zipped, run_sliced, uncounted_run}
use Rattle.shapers_stretch.proofs.ot_shaper_arabic_stretch.counting.count_last.Goals as goal
use Rattle.shapers_stretch.proofs.Zips.{length-zipped}

empty_no : (n : ℕ) (b : Bool) → b ≡ (n == 0) → b ≡ false → 0 < n
empty_no = grind arith

pub returns-then-is_empty : goal.returns-then-is_empty
returns-then-is_empty g c =
    let how : Laying =
    record {
      font = g.F.hb_font_t.font c.args.font.now;
      choice = c.args.choice;
      right_to_left =
          c.args.right_to_left;
    } in
    let gs = c.args.glyphs.now in
    let ps = c.args.positions.now in
    let p = c.last_part-part.result in
    let at = last_part_zipped gs ps p.start p.word p.tiles c.requires.both c.requires.some
    c.last_part-part.ensures.tiles c.last_part-part.ensures.word c.last_part-part.ensures.start in
    let none : length (take (length gs - p.tiles) (drop p.tiles gs)) ≡ 0 =
    search arith in
    let long = length-zipped gs ps c.requires.both in
    search (arith, counted_plain how (zip gs ps) p.start p.word p.tiles at (omega arith))

pub returns-in_err-added : goal.returns-in_err-added
returns-in_err-added g c =
    let how : Laying =
    record {
      font = g.F.hb_font_t.font c.args.font.now;
      choice = c.args.choice;
      right_to_left =
          c.args.right_to_left;
    } in
    let gs = c.args.glyphs.now in
    let ps = c.args.positions.now in
    let p = c.last_part-part.result in
    let at = last_part_zipped gs ps p.start p.word p.tiles c.requires.both c.requires.some
    c.last_part-part.ensures.tiles c.last_part-part.ensures.word c.last_part-part.ensures.start in
    let some : 0 < length (take (length gs - p.tiles) (drop p.tiles gs)) =
    empty_no _ c.is_empty.result c.is_empty.ensures c.if-is_empty.false in
    let long = length-zipped gs ps c.requires.both in
    search (
      arith,
      c.from_residual.ensures,
      uncounted_run how (zip gs ps) p.start p.word p.tiles at (omega arith)
          (run_sliced how gs ps p.word p.tiles c.requires.both at.word_fits ∙ sym c.count_sequence.ensures.added ∙
          c.in_err-added.was),
    )

pub returns : goal.returns
returns g c =
    let how : Laying =
    record {
      font = g.F.hb_font_t.font c.args.font.now;
      choice = c.args.choice;
      right_to_left =
          c.args.right_to_left;
    } in
    let gs = c.args.glyphs.now in
    let ps = c.args.positions.now in
    let p = c.last_part-part.result in
    let at = last_part_zipped gs ps p.start p.word p.tiles c.requires.both c.requires.some
    c.last_part-part.ensures.tiles c.last_part-part.ensures.word c.last_part-part.ensures.start in
    let some : 0 < length (take (length gs - p.tiles) (drop p.tiles gs)) =
    empty_no _ c.is_empty.result c.is_empty.ensures c.if-is_empty.false in
    let long = length-zipped gs ps c.requires.both in
    let counted : IsCounted how (zip gs ps) p.start c.in_ok-added.added =
    counted_run how (zip gs ps) p.start p.word p.tiles c.in_ok-added.added at (omega arith)
    (run_sliced how gs ps p.word p.tiles c.requires.both at.word_fits ∙ sym c.in_ok-added.ensures.added) in
    (counted, omega arith, c.in_ok-added.ensures.bound)
