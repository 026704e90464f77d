use Rattle.std.proofs.Common.{min}
use Rattle.opentype_face.specs.Bytes.{u32_in}
use Rattle.opentype_layout.specs.Features.{nth_holding}
use Rattle.opentype_face.proofs.Foremost.{IsFirst}
use Rattle.opentype_layout.proofs.features.find_variation.Given as goal

abbrev pub invariant-loop-i : goal.invariant-loop-i
invariant-loop-i l = IsFirst (nth_holding l.variations) (min (u32_in l.variations 4) 512) l.i
