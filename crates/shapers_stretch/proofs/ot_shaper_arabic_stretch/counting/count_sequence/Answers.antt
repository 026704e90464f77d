use Rattle.shapers_stretch.proofs.Numbers.{numbers_apart}
use Rattle.std.proofs.Common.{arith}
use Rattle.shapers_stretch.proofs.LayBounds.{FoundLay, found_lay}
use Rattle.shapers_stretch.proofs.ot_shaper_arabic_stretch.counting.count_sequence.Goals as goal

pub offsets_fit-requires-clause-lay : goal.offsets_fit-requires-clause-lay
offsets_fit-requires-clause-lay g c =
    let found : FoundLay c.args.choice c.args.right_to_left c.in_ok-sequence.sequence c.in_ok-lay.lay =
    found_lay c.args.choice c.args.right_to_left c.in_ok-sequence.sequence c.in_ok-lay.lay (search arith) in
    found.small

pub returns-in_err-sequence-clause-added : goal.returns-in_err-sequence-clause-added
returns-in_err-sequence-clause-added = search (arith, numbers_apart)

pub overflow_mul-result : goal.overflow_mul-result
overflow_mul-result g c =
    omega (arith, (found_lay c.args.choice c.args.right_to_left c.in_ok-sequence.sequence c.in_ok-lay.lay (search arith)).copies)

pub returns-then-offsets_fit-clause-bound : goal.returns-then-offsets_fit-clause-bound
returns-then-offsets_fit-clause-bound g c =
    omega (arith, (found_lay c.args.choice c.args.right_to_left c.in_ok-sequence.sequence c.in_ok-lay.lay (search arith)).copies)
