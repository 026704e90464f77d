use Rattle.std.proofs.Common.{min}
use Rattle.opentype_face.specs.Bytes.{u16_in}
use Rattle.opentype_layout.specs.Features.{nth_substitute}
use Rattle.opentype_face.proofs.Foremost.{IsFirst}
use Rattle.opentype_layout.proofs.features.find_substitute.Given as goal

abbrev pub invariant-loop-i : goal.invariant-loop-i
invariant-loop-i l = IsFirst (nth_substitute l.substitutions l.index) (min (u16_in l.substitutions 4) 1024) l.i
