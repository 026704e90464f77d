use Rattle.opentype_face.specs.Bytes.{u16_in}
use Rattle.opentype_layout.specs.Features.{nth_feature}
use Rattle.opentype_face.proofs.Foremost.{IsFirst}
use Rattle.opentype_layout.proofs.features.find_feature.Given as goal

abbrev pub invariant-loop-i : goal.invariant-loop-i
invariant-loop-i l = IsFirst (nth_feature l.table l.system l.tag) (u16_in l.system 4) l.i
