use Rattle.opentype_face.proofs.Foremost.{IsFirst}
use Rattle.opentype_face.specs.Lookups.{subtables_in}
use Rattle.opentype_gsub.specs.Growth.{adding}
use Rattle.opentype_gsub.proofs.growth.first_adder.Given as goal

abbrev pub invariant-loop-i : goal.invariant-loop-i
invariant-loop-i l = IsFirst (adding l.lookup) (subtables_in l.lookup) l.i
