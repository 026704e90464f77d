use Rattle.std.proofs.Common.{◌-◌, ◌+◌, ◌*◌}
use Rattle.opentype_face.specs.Bytes.{u32_in}
use Rattle.opentype_face.proofs.Searches.{IsSearched}
use Rattle.opentype_gpos.proofs.kern.find_listed.Given as goal

abbrev pub invariant-loop-low : goal.invariant-loop-low
invariant-loop-low l = IsSearched (λ i. u32_in l.bytes (14 + i * 6))
    (λ i. u32_in l.bytes (14 + i * 6)) l.pair l.count l.low l.high

abbrev pub decreases-loop-low : goal.decreases-loop-low
decreases-loop-low l = l.high - l.low
