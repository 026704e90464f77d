use Rattle.std.proofs.Common.{length}
use Rattle.opentype_layout.specs.Features.{nth_script}
use Rattle.opentype_face.proofs.Foremost.{IsFirst}
use Rattle.opentype_layout.proofs.features.first_script.Given as goal

abbrev pub invariant-loop-i : goal.invariant-loop-i
invariant-loop-i l = IsFirst (nth_script l.table l.tags l.is_found) (length l.tags) l.i
