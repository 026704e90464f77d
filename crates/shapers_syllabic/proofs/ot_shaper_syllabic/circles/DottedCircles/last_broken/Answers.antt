use Rattle.std.proofs.Common.{arith}
use Rattle.shapers_syllabic.proofs.LastBroken.{last_broken_inside, last_broken_is}
use Rattle.shapers_syllabic.proofs.ot_shaper_syllabic.circles.DottedCircles.last_broken.Goals as goal

pub overflow_sub-byte : goal.overflow_sub-byte
overflow_sub-byte = search (arith, last_broken_inside)

pub returns : goal.returns
returns c = (last_broken_is c.args.self.now c.args.text.now c.unbroken_end.result c.syllable_end.result c.requires
    c.unbroken_end.ensures.len c.syllable_end.ensures.len).1
