use Rattle.opentype_face.proofs.Foremost.{IsFirst}
use Rattle.opentype_gpos.specs.Nearby.{base_behind}
use Rattle.opentype_gpos.proofs.nearby.first_base.Given as goal

abbrev pub invariant-loop-i : goal.invariant-loop-i
invariant-loop-i l = IsFirst (base_behind l.gdef l.sight l.is_any l.bases l.glyphs l.at) l.at l.i
