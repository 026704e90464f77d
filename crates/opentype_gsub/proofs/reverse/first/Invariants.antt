use Rattle.opentype_face.proofs.Foremost.{IsFirst}
use Rattle.opentype_face.specs.Lookups.{subtables_in}
use Rattle.opentype_gsub.specs.Reversed.{nth_reversed}
use Rattle.opentype_gsub.proofs.reverse.first.Given as goal

abbrev pub invariant-loop-i : goal.invariant-loop-i
invariant-loop-i l = IsFirst (nth_reversed l.gdef l.sights l.lookup l.glyphs l.at) (subtables_in l.lookup) l.i
