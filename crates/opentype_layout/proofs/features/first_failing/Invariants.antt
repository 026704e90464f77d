use Rattle.std.proofs.Common.{min}
use Rattle.opentype_face.specs.Bytes.{u16_in}
use Rattle.opentype_layout.specs.Features.{nth_failing}
use Rattle.opentype_face.proofs.Foremost.{IsFirst}
use Rattle.opentype_layout.proofs.features.first_failing.Given as goal

abbrev pub invariant-loop-i : goal.invariant-loop-i
invariant-loop-i l = IsFirst (nth_failing l.set) (min (u16_in l.set 0) 256) l.i
