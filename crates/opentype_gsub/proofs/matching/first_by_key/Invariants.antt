use Rattle.opentype_gsub.specs.Ligatures.{nth_ligature}
use Rattle.opentype_face.proofs.Foremost.{IsFirst}
use Rattle.opentype_face.specs.Lookups.{rule_count_in}
use Rattle.opentype_gsub.proofs.matching.first_by_key.Given as goal

abbrev pub invariant-loop-i : goal.invariant-loop-i
invariant-loop-i l = IsFirst (nth_ligature l.gdef l.sight l.glyphs l.at l.set) (rule_count_in l.set) l.i
