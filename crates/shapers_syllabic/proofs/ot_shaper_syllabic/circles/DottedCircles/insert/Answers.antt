use Rattle.std.proofs.Common.{◌≡◌, ◌+◌, arith, length, rules}
use Rattle.shapers_syllabic.specs.Circles.{with_circles}
use Rattle.shapers_syllabic.proofs.CircleLaws.{with_circles-none, length-with_circles}
use Rattle.shapers_syllabic.proofs.ot_shaper_syllabic.circles.DottedCircles.insert.Goals as goal

pub returns-then-count-eq0-clause-ok : goal.returns-then-count-eq0-clause-ok
returns-then-count-eq0-clause-ok = search (arith, with_circles-none)

pub returns-then-count-eq0-clause-length : goal.returns-then-count-eq0-clause-length
returns-then-count-eq0-clause-length = search (arith, length-with_circles)

pub returns-in_err-grow-clause-length : goal.returns-in_err-grow-clause-length
returns-in_err-grow-clause-length c =
    let size : length (with_circles c.args.self.now c.args.buffer.now.glyphs) ≡ length c.args.buffer.now.glyphs
    + c.count-count.result = search (arith, length-with_circles) in
    rw size (search rules)

pub returns-in_err-grow-clause-free : goal.returns-in_err-grow-clause-free
returns-in_err-grow-clause-free = search (arith, length-with_circles)
