use Rattle.std.proofs.Common.{arith}
use Rattle.shapers_syllabic.proofs.CircleLaws.{is_first_broken, none_broken, to_end}
use Rattle.shapers_syllabic.proofs.ot_shaper_syllabic.circles.DottedCircles.first_broken.Goals as goal

pub returns-then-start-text : goal.returns-then-start-text
returns-then-start-text = search (arith, none_broken)

pub returns : goal.returns
returns c =
    let text = c.args.text.now in
    let start = c.unbroken_len-start.result in
    let rest = to_end text start in
    is_first_broken c.args.self.now text start
    c.first_syllable_len.result c.unbroken_len-start.ensures.len (omega arith)
    (search arith) c.first_syllable_len.ensures.some (search arith)
