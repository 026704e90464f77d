use Rattle.opentype_face.specs.Directory.{with_tag}
use Rattle.opentype_face.proofs.Foremost.{IsFirst}
use Rattle.opentype_face.proofs.directory.first_record.Given as goal

abbrev pub invariant-loop-i : goal.invariant-loop-i
invariant-loop-i l = IsFirst (with_tag l.directory l.tag) l.count l.i
