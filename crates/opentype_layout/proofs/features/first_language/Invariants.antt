use Rattle.std.proofs.Common.{length}
use Rattle.opentype_layout.specs.Features.{nth_language}
use Rattle.opentype_face.proofs.Foremost.{IsFirst}
use Rattle.opentype_layout.proofs.features.first_language.Given as goal

abbrev pub invariant-loop-i : goal.invariant-loop-i
invariant-loop-i l = IsFirst (nth_language l.script l.tags) (length l.tags) l.i
