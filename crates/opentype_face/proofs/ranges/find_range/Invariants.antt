use Rattle.std.proofs.Common.{◌-◌, ◌+◌, ◌*◌}
use Rattle.opentype_face.specs.Bytes.{u16_in}
use Rattle.opentype_face.proofs.Searches.{IsSearched}
use Rattle.opentype_face.proofs.ranges.find_range.Given as goal

abbrev pub invariant-loop-low : goal.invariant-loop-low
invariant-loop-low l = IsSearched (λ i. u16_in l.bytes (4 + i * 6))
    (λ i. u16_in l.bytes (6 + i * 6)) l.number l.range_count l.low l.high

abbrev pub decreases-loop-low : goal.decreases-loop-low
decreases-loop-low l = l.high - l.low
