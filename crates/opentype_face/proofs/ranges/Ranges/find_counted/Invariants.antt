use Rattle.std.proofs.Common.{◌-◌, ◌+◌, ◌*◌, slice_index}
use Rattle.opentype_face.specs.Bytes.{u24_in}
use Rattle.opentype_face.proofs.Searches.{IsSearched}
use Rattle.opentype_face.proofs.ranges.Ranges.find_counted.Given as goal

abbrev pub invariant-loop-low : goal.invariant-loop-low
invariant-loop-low l = IsSearched (λ i. u24_in l.self.bytes.now (l.self.first + i * l.self.size))
    (λ i. u24_in l.self.bytes.now (l.self.first + i * l.self.size)
    + slice_index l.self.bytes.now (l.self.last + i * l.self.size)) l.number
    l.self.count l.low l.high

abbrev pub decreases-loop-low : goal.decreases-loop-low
decreases-loop-low l = l.high - l.low
