use Rattle.opentype_face.specs.Bytes.{u16_in}
use Rattle.opentype_layout.specs.Features.{features_in, nth_any}
use Rattle.opentype_face.proofs.Foremost.{IsFirst}
use Rattle.opentype_font.proofs.script_features.find_vertical.Given as goal

abbrev pub invariant-loop-i : goal.invariant-loop-i
invariant-loop-i l = IsFirst (nth_any l.table 0x76657274) (u16_in (features_in l.table) 0) l.i
