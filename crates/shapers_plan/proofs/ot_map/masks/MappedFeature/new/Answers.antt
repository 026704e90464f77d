use Rattle.std.proofs.Common.{◌≤◌, ◌+◌, arith}
use Rattle.std.proofs.Math.Pow.{pow_mono}
use Rattle.std.proofs.lemmas.Nat.{one_shl}
use Rattle.shapers_plan.proofs.ot_map.masks.MappedFeature.new.Goals as goal

pub overflow_sub-mask : goal.overflow_sub-mask
overflow_sub-mask c =
    let low = one_shl c.args.next_bit 32 (omega arith) in
    let high = one_shl (c.args.next_bit + c.count_bits.result) 32 (omega arith) in
    let within : c.args.next_bit ≤ c.args.next_bit + c.count_bits.result = omega arith in
    rw (low, high) (pow_mono within)
